-- What holds after every history of calls from a format that is done, or from a heap that the audit passes: the
-- demands, as theorems. Each is read off what holds of the heap at the end (Tied): it is sound, of the edition that was
-- told, and the ledger has what it holds.
-- Assumes nothing.
use Rattle.std.specs.Prelude.{◌≡◌, refl, ◌≢◌, ◌⊎◌, true, false, List, [], ◌++◌, ℕ, ◌+◌, ◌*◌, ◌-◌, ◌%◌, ◌≤◌, ◌<◌, length, if◌then◌else◌}
use Rattle.std.proofs.Common.{sym, ap, ◌∙◌, arith}
use Rattle.std.proofs.Math.ListN.{drop}
use borrow.Author.Tests.{le-ltb, lt-ltb}
use Rattle.rules.specs.declared.Sized.{Sized}
use Rattle.rules.specs.Say.{listing}
use Rattle.rules.specs.Books.{
  at,
  arenas,
  pools,
  memory_length,
  edition,
  alignment_of,
  alignment,
  class_head,
  free_pools,
  arena,
}
use Rattle.rules.specs.Blocks.{class_of, size_of, last_class, size_at, live, dead_number}
use Rattle.rules.specs.View.{part}
use Rattle.rules.specs.Outcome.{Outcome, answer_of, refused}
use Rattle.rules.specs.Numbers.{
  ask,
  give_back,
  resize,
  view,
  view_size,
  sized_of,
  stand_in,
  stand_in_at,
  roll_call,
  roll_of,
  roll_outcome,
  room_number,
}
use Rattle.rules.specs.Audit.{audit}
use Rattle.books.specs.Sizes.{Aligned, of_sixteen, aligned, size_low}
use Rattle.sequences.specs.Update.{is_false}
use Rattle.sequences.specs.Sequences.{In, Once}
use Rattle.sequences.specs.Rising.{Rising}
use Rattle.sequences.specs.Listing.{held_below, listing_same, listing_count, listing_place}
use Rattle.sound.specs.Sound.{Shape}
use Rattle.sound.specs.Grounds.{shape_zero}
use Rattle.sound.specs.Audited.{sound_yes}
use Rattle.sound.specs.Held.{held, head_zero}
use Rattle.laws.specs.Holding.{
  LiveAt,
  live_size,
  live_ends,
  live_aligned,
  live_rows,
  class_is,
  in_memory,
  holding_live,
  holding_long,
  holding_more,
  holding_some,
}
use Rattle.laws.specs.Written.{apart}
use Rattle.laws.specs.Calls.{dead_some, view_is, view_size_is, back_dead, back_is}
use Rattle.laws.specs.Free.{live_held, ask_free, ask_bytes, resize_free}
use Rattle.laws.specs.NoRoom.{four_full, full_four}
use Rattle.laws.specs.Usable.{list_rises, list_once, list_usable, usable_listed}
use Rattle.laws.specs.StandIn.{stand_in_means}
use Rattle.laws.specs.Beside.{roll_shown}
use Rattle.laws.specs.History.{
  Event,
  State,
  Beginning,
  Begins,
  found,
  begun,
  released,
  size_for,
  after,
  ended,
  run,
  NoSix,
  usable_list,
  Usable,
  Full,
}
use Rattle.laws.proofs.Tied.{Tied, begun_tied, one_of_two, step, tied}
use Rattle.laws.proofs.Dead.{block_open, event_stays, done_live, ten_block, block_ten, twice, not_ended}

-- any beginning, where its format is done or the audit passes its heap, and any events
module _ (start : Beginning) (ok : Begins start) (es : List Event) where
  -- the heap, the ledger and the edition told, after it
  abbrev pub end : State
  end = run (begun start) es

  T : Tied (found start).memory end
  T = (tied (found start).memory (begun_tied start ok) es).1

  abbrev al : ℕ
  al = alignment_of end.told

  L : Aligned al
  L = aligned end.told

  shape : Shape al T.A T.P end.heap
  shape = T.sound.rule1

  -- no call of the history gives 6
  pub no_six : NoSix (begun start) es
  no_six = (tied (found start).memory (begun_tied start ok) es).0

  -- 02, W-201: "It gives yes on every heap that demand 2 describes"
  pub audit_yes : audit end.heap ≡ 0
  audit_yes = sound_yes L T.sound

  -- ---- the edition
  -- the books' edition is the one that the last format which was done was told, or that the history began with
  pub edition_stays : edition end.heap ≡ end.told
  edition_stays = T.edition_is

  -- it is eight, and the alignment 8, or it is sixteen, and the alignment 16
  pub eight_or_sixteen : ((edition end.heap ≡ 0) × (alignment end.heap ≡ 8))
      ⊎ ((edition end.heap ≡ 1) × (alignment end.heap ≡ 16))
  eight_or_sixteen = one_of_two (edition end.heap) shape.an_edition

  -- in edition sixteen heads 36 to 67, past that of class 31, stay 0
  pub heads_stay : edition end.heap ≡ 1 → (i : ℕ) → 36 ≤ i → i < 68 → at end.heap.books i ≡ 0
  heads_stay one i low high =
      let last : last_class al ≡ 31 = ap last_class (sym shape.alignment_is ∙ of_sixteen (edition end.heap) (omega (arith, one))) in
      let q : i ≡ class_head (i - 4) = omega arith in
      rw q (head_zero L (held T.sound).books (held T.sound).says (i - 4) (omega (arith, last)) (omega arith))

  -- for 1 ≤ n ≤ 512, ask n is refused with 4 exactly if every pool holds a live block and every pool of that class is
  -- full of live ones
  pub four_means : (n : ℕ) → 1 ≤ n → n ≤ 512
      → let x = end.heap in
      ((ask x n).answer.number ≡ 4 → Full (alignment x) (arenas x) (pools x) x (class_of (alignment x) n))
      × (Full (alignment x) (arenas x) (pools x) x (class_of (alignment x) n) → (ask x n).answer.number ≡ 4)
  four_means n low high = rw (shape.alignment_is, shape.arenas_are, shape.pools_are) (four_full L T.sound n low high, full_four L T.sound n low high)

  -- ---- 02, W-203: "CPython keeps the list rising by free pools"
  -- no arena of the usable list has more free pools than one that follows it
  pub usable_rises : Rising (λ a. arena end.heap.books free_pools a) (usable_list end.heap)
  usable_rises = list_rises L T.sound

  -- each arena of it is met once: `met` stops after A arenas, so that without this a list that runs in a circle could
  -- rise too
  pub usable_once : Once (usable_list end.heap)
  usable_once = list_once L T.sound

  -- and the list has an arena exactly if it is open and has free pools
  pub usable_means : (a : ℕ)
      → (In a (usable_list end.heap) → Usable end.heap a)
      × (Usable end.heap a → In a (usable_list end.heap))
  usable_means a = (list_usable L T.sound a, usable_listed L T.sound a)

  -- ---- the entries of the ledger
  -- an offset where something is held is live, and one where nothing is held is not
  some_live : (o : ℕ) → end.ledger o ≢ [] → live al T.A T.P end.heap.books end.heap.map o ≡ true
  some_live o some = holding_some al T.A T.P end.heap o (λ q. some (T.tie o ∙ q))

  none_dead : (o : ℕ) → end.ledger o ≡ [] → live al T.A T.P end.heap.books end.heap.map o ≡ false
  none_dead o none = is_false (live al T.A T.P end.heap.books end.heap.map o) (λ on. live_held L T.sound o on (sym (T.tie o) ∙ none))

  -- an entry is a live block of the plain heap, of its length
  entry_live : (o : ℕ) → end.ledger o ≢ [] → LiveAt al T.A T.P T.rows o
  entry_live o some = live_rows L T.sound o (some_live o some)

  entry_size : (o : ℕ) (t : LiveAt al T.A T.P T.rows o) → length (end.ledger o) ≡ live_size t
  entry_size o t = ap length (T.tie o) ∙ holding_long L T.sound o t

  -- and of the size that the books have for it
  size_is : (o : ℕ) → live al T.A T.P end.heap.books end.heap.map o ≡ true
      → size_at al T.A end.heap.books o ≡ length (end.ledger o)
  size_is o on = let t = live_rows L T.sound o on in ap (size_of al) (class_is L T.sound o t) ∙ sym (entry_size o t)

  -- an offset is live exactly if a block is held there
  pub live_means : (o : ℕ)
      → let x = end.heap in
      (live (alignment x) (arenas x) (pools x) x.books x.map o ≡ true → end.ledger o ≢ [])
      × (end.ledger o ≢ [] → live (alignment x) (arenas x) (pools x) x.books x.map o ≡ true)
  live_means o =
      rw (shape.alignment_is, shape.arenas_are, shape.pools_are)
      (λ on q. live_held L T.sound o on (sym (T.tie o) ∙ q), some_live o)

  -- ---- a block that is held is never handed out: nobody holds what an ask hands out, nor what a resize moves to
  pub asked_free : (n : ℕ) → (ask end.heap n).answer.number ≡ 0
      → end.ledger (ask end.heap n).answer.offset ≡ []
  asked_free n z = T.tie _ ∙ ask_free L T.sound n z

  pub moved_free : (o n : ℕ) → (resize end.heap o n).answer.number ≡ 0
      → (resize end.heap o n).answer.offset ≢ o
      → end.ledger (resize end.heap o n).answer.offset ≡ []
  moved_free o n z d = T.tie _ ∙ resize_free L T.sound o n z d

  -- an ask writes no byte of the block that it hands out
  pub asked_bytes : (n : ℕ) → (ask end.heap n).answer.number ≡ 0
      → part (ask end.heap n).answer.offset (size_for end.told n) (ask end.heap n).heap.memory
      ≡ part (ask end.heap n).answer.offset (size_for end.told n) end.heap.memory
  asked_bytes = ask_bytes L T.sound

  -- a give-back is done exactly where a block is held; elsewhere it is refused, with 10 where there is a block and with
  -- 5 where there is none, and nothing changes
  pub back_means : (o : ℕ)
      → (end.ledger o ≢ [] → (give_back end.heap o).answer ≡ answer_of 0 o)
      × (end.ledger o ≡ [] → let x = end.heap in
      give_back x o ≡ refused (dead_number (alignment x) (arenas x) (pools x) x.books o) x)
  back_means o = (
    λ some. ap (λ (x : Outcome). x.answer) (back_is L T.sound o (some_live o some)),
    λ none. rw (shape.alignment_is, shape.arenas_are, shape.pools_are) (back_dead L T.sound o (none_dead o none)),
  )

  -- ---- a dead block is told from no block
  -- a give-back that is done, and repeated at once, is refused and changes nothing: with 5 if the first one released
  -- the arena, and otherwise with 10
  pub back_twice : (o : ℕ) → (give_back end.heap o).answer.number ≡ 0
      → let once = (give_back end.heap o).heap in
      give_back once o ≡ refused (if released end.heap once o then 5 else 10) once
  back_twice o z = twice L T.sound o (done_live L T.sound o z)

  -- an offset that gets 10 gets 10 after any event, unless the block is handed out again, its pool is set to another
  -- class or its arena is released, as every arena is by a format that is done
  pub dead_stays : (o : ℕ) (event : Event) → (give_back end.heap o).answer.number ≡ 10
      → ended end event o ≡ false
      → (give_back (after end event).heap o).answer.number ≡ 10
  dead_stays o event ten none =
      let T' = (step (found start).memory T event).1 in
      let L' = aligned (after end event).told in
      let shape' = T'.sound.rule1 in
      let N = not_ended end event o none in
      let b = ten_block L T.sound o ten in
      let off = is_false (live (alignment_of (after end event).told) T'.A T'.P (after end event).heap.books (after end event).heap.map o)
      (λ u. absurd (omega (arith, N.held, ap length (T'.tie o), holding_more L' T'.sound o (live_rows L' T'.sound o u)))) in
      let now = event_stays (found start).memory T o b event N.class (N.arena (block_open L T.sound o b)) in
      block_ten L' T'.sound o off (rw (shape'.alignment_is, shape'.arenas_are, shape'.pools_are) at now)

  -- ---- what is read out: view hands back the bytes that the ledger has, and the empty part exactly where nothing is
  -- held
  pub view_shows : (o : ℕ) → view end.heap o ≡ end.ledger o
  view_shows o = view_is T.sound o ∙ sym (T.tie o)

  -- and its companion the size of what is held, or 10 or 5
  pub size_shows : (o : ℕ)
      → (end.ledger o ≢ [] → view_size end.heap o ≡ sized_of 0 (length (end.ledger o)))
      × (end.ledger o ≡ [] → let x = end.heap in
      view_size x o ≡ sized_of (dead_number (alignment x) (arenas x) (pools x) x.books o) 0)
  size_shows o = (
    λ some. view_size_is T.sound o ∙ rw (some_live o some) (ap (sized_of 0) (size_is o (some_live o some))),
    λ none. rw (shape.alignment_is, shape.arenas_are, shape.pools_are) (view_size_is T.sound o ∙ rw (none_dead o none) refl),
  )

  -- the stand-in hands back the holder's bytes, in memory itself, where a block is held, and where none is, the phrase
  -- itself; memory and lent are where memory and the phrase lie
  pub stand_in_shows : (o : ℕ) (phrase : List ℕ) (memory lent : ℕ × ℕ)
      → (end.ledger o ≢ [] → (stand_in end.heap o phrase ≡ end.ledger o)
      × (stand_in_at end.heap o memory lent ≡ (memory.0, o + memory.1)))
      × (end.ledger o ≡ [] → (stand_in end.heap o phrase ≡ phrase)
      × (stand_in_at end.heap o memory lent ≡ lent))
  stand_in_shows o phrase memory lent =
      let t = stand_in_means end.heap o phrase memory lent in (
        λ some. let u = t.1 (ap (λ (s : Sized). s.number) ((size_shows o).0 some)) in (u.0 ∙ view_shows o, u.1),
        λ none. t.0 (λ z. dead_some _ _ _ end.heap.books o (sym (ap (λ (s : Sized). s.number) ((size_shows o).1 none)) ∙ z)),
      )

  -- no two entries overlap
  pub entries_apart : (o x : ℕ) → end.ledger o ≢ [] → end.ledger x ≢ [] → x ≢ o
      → (o + length (end.ledger o) ≤ x) ⊎ (x + length (end.ledger x) ≤ o)
  entries_apart o x a b d =
      let t = entry_live o a in
      let u = entry_live x b in
      rw (entry_size o t, entry_size x u) (apart o x t u d)

  -- each entry lies in memory, in one pool, past the pool's first 48 bytes
  pub entry_inside : (o : ℕ) → end.ledger o ≢ []
      → (o + length (end.ledger o) ≤ length end.heap.memory)
      × (48 ≤ o % 4096)
      × (o % 4096 + length (end.ledger o) ≤ 4096)
  entry_inside o a =
      let t = entry_live o a in
      let l = size_low L (T.rows.class t.pool) t.class in
      rw (entry_size o t) (in_memory L T.sound o t, omega (arith, t.place, live_ends t, l), omega (arith, t.place, live_ends t, l))

  -- each begins at a multiple of the alignment, and is as long as one
  pub entry_aligned : (o : ℕ) → end.ledger o ≢ []
      → (o % alignment end.heap ≡ 0) × (length (end.ledger o) % alignment end.heap ≡ 0)
  entry_aligned o some =
      let t = entry_live o some in
      rw (shape.alignment_is, entry_size o t) (live_aligned L o t)

  -- memory at each entry is exactly the ledger's bytes for it
  pub entry_bytes : (o : ℕ) → end.ledger o ≢ []
      → end.ledger o ≡ part o (length (end.ledger o)) end.heap.memory
  entry_bytes o some =
      let t = entry_live o some in
      T.tie o ∙ holding_live L T.sound o t ∙ ap (λ (s : ℕ). part o s end.heap.memory) (sym (entry_size o t))

  -- the first 48 bytes of each pool are as they were found, before the history began
  pub first_bytes : (i : ℕ) → i % 4096 < 48 → at end.heap.memory i ≡ at (found start).memory i
  first_bytes = T.first

  -- ---- the roll is the ledger
  -- the size of the entry at an offset, 0 where there is none
  abbrev pub size_in : ℕ → ℕ
  size_in o = length (end.ledger o)

  -- offset and size of each entry, by rising offset; how many there are
  abbrev pub entries : List ℕ
  entries = listing size_in 0 (length end.heap.memory)

  abbrev pub entry_count : ℕ
  entry_count = held_below size_in (length end.heap.memory)

  -- each entry is listed once, in its place: after the entries at lower offsets, and there is nothing else in the list
  pub entry_listed : (o : ℕ) → end.ledger o ≢ []
      → (at entries (2 * held_below size_in o) ≡ o)
      × (at entries (2 * held_below size_in o + 1) ≡ length (end.ledger o))
  entry_listed o some =
      let t = entry_live o some in
      let l = size_low L (T.rows.class t.pool) t.class in
      listing_place size_in o (length end.heap.memory) (omega (arith, in_memory L T.sound o t, l)) (λ q. absurd (omega (arith, q, entry_size o t, l)))

  pub entries_long : length entries ≡ 2 * entry_count
  entries_long = listing_count size_in (length end.heap.memory)

  roll_entries : roll_of end.heap ≡ entries
  roll_entries =
      let long : memory_length (arenas end.heap) (pools end.heap) ≡ length end.heap.memory =
      rw (shape.arenas_are, shape.pools_are) (sym (held T.sound).says.bytes) in
      roll_shown end.heap (shape_zero shape)
      ∙ listing_same (λ o. length (view end.heap o)) size_in (λ o. ap length (view_shows o)) 0 _
      ∙ ap (listing size_in 0) long

  -- roll call with room gives 0, the number of entries, and offset and size of each, and leaves the words after them
  pub roll_with_room : (words : List ℕ) → length entries ≤ length words
      → roll_call end.heap words ≡ roll_outcome 0 entry_count (entries ++ drop (length entries) words)
  unfolding roll_call room_number
  roll_with_room words l =
      rw (shape_zero T.sound.rule1, roll_entries, le-ltb (length words) (length entries) l)
      (ap (λ (k : ℕ). roll_outcome 0 k (entries ++ drop (length entries) words)) (omega (arith, entries_long)))

  -- with less room it gives 7 and writes nothing
  pub roll_without : (words : List ℕ) → length words < length entries
      → roll_call end.heap words ≡ roll_outcome 7 0 words
  unfolding roll_call room_number
  roll_without words l = rw (shape_zero T.sound.rule1, roll_entries, lt-ltb (length words) (length entries) l)
