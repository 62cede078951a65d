-- `records::Call::read` makes the tests of the rules: the op is known, and the spare bytes are 0.
use Rattle.std.proofs.Common.{◌∙◌, sym, ap, ap₂, ◌&&◌}
use Rattle.std.proofs.lemmas.Result.{err_from_is_err_and}
use Rattle.records.specs.Reads.{zero_in, well_made_is, known}
use Rattle.records.proofs.Call.read.Goals as goal

pub returns-in_err-op : goal.returns-in_err-op
returns-in_err-op c =
    let r = c.args.bytes.now in
    let p = err_from_is_err_and c.from_residual.result c.from_residual.ensures.1 in
    rw (p.1, p.2, c.in_err-op.ensures.0) (
      c.if-bytes-lt16.false,
      well_made_is r c.if-bytes-lt16.false ∙ ap (λ b. b && (zero_in 1 3 r && zero_in 12 4 r)) c.in_err-op.ensures.1,
    )

pub returns-then-not-all_zero : goal.returns-then-not-all_zero
returns-then-not-all_zero c = (
  c.if-bytes-lt16.false,
  well_made_is c.args.bytes.now c.if-bytes-lt16.false
      ∙ ap₂ ◌&&◌ (known c.in_ok-op.op c.in_ok-op.ensures)
      (ap₂ ◌&&◌ (sym c.all_zero.ensures) (sym c.all_zero-2.ensures) ∙ c.if-not-all_zero.true),
)

pub returns : goal.returns
returns c = (
  c.if-bytes-lt16.false,
  well_made_is c.args.bytes.now c.if-bytes-lt16.false
      ∙ ap₂ ◌&&◌ (known c.in_ok-op.op c.in_ok-op.ensures)
      (ap₂ ◌&&◌ (sym c.all_zero.ensures) (sym c.all_zero-2.ensures) ∙ c.if-not-all_zero.false),
  record { op = c.in_ok-op.ensures; size = sym c.link_at.ensures; offset = sym c.link_at-2.ensures },
)
