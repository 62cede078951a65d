-- `bits::none_set` answers whether the pool's words are all 0: then their or is.
use Rattle.std.proofs.Common.{rules, ◌≡◌, ◌*◌, take, drop, bit_or}
use Rattle.std.specs.List.{fold}
use Rattle.bits.specs.Map.{code_none}
use Rattle.bits.proofs.none_set.Goals as goal

pub returns : goal.returns
returns c =
    let a = c.args in
    let ored : c.fold.result ≡ fold bit_or 0 (take 8 (drop (8 * a.pool) a.map.now)) = search rules in
    rw (ored, code_none a.map.now a.pool c.requires)
