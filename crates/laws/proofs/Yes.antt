-- W-201, over any heap at all: what the audit's yes means, and what holds of every call after it: it gives no 6, and
-- the audit says yes again, because every call keeps a sound heap sound.
-- Assumes nothing.
use Rattle.std.specs.Prelude.{◌≡◌, ◌≢◌}
use Rattle.rules.specs.Books.{Heap, arenas, pools, alignment}
use Rattle.rules.specs.Audit.{audit}
use Rattle.books.specs.Sizes.{aligned}
use Rattle.sound.specs.Plain.{Plain}
use Rattle.sound.specs.Sound.{Sound}
use Rattle.sound.specs.Audited.{plain_of, yes_sound, sound_yes}
use Rattle.laws.specs.History.{Event, passed, begun, number_of, after}
use Rattle.laws.proofs.Tied.{passed_tied, step}

-- it says yes exactly where the heap holds some plain heap soundly, by its own alignment, A and P
pub yes_means : (h : Heap)
    → (audit h ≡ 0 → (r : Plain) × Sound (alignment h) (arenas h) (pools h) h r)
    × ((r : Plain) → Sound (alignment h) (arenas h) (pools h) h r → audit h ≡ 0)
yes_means h = (λ e. (plain_of h, yes_sound h e), λ r S. sound_yes (aligned _) S)

-- "After a yes, no call of 01 gives 6"
pub yes_no_six : (h : Heap) → audit h ≡ 0 → (event : Event) → number_of (begun (passed h)) event ≢ 6
yes_no_six h e event = (step h.memory (passed_tied h e) event).0

-- and after any call, and any byte that a holder writes in a live block, the audit says yes again
pub yes_stays : (h : Heap) → audit h ≡ 0 → (event : Event) → audit (after (begun (passed h)) event).heap ≡ 0
yes_stays h e event = sound_yes (aligned _) (step h.memory (passed_tied h e) event).1.sound
