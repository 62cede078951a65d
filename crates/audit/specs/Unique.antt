-- The audit's promise determines it: any two outcomes that it allows, of one heap, are equal in the verdict and in
-- every byte and word, for no two verdicts have one number.
-- Assumes nothing.
use Rattle.std.specs.Prelude.{◌≡◌, ℕ}
use Rattle.std.proofs.Common.{sym, ap, ◌∙◌}
use Rattle.rules.specs.declared.Verdict.{Verdict}
use Rattle.rules.specs.Books.{Heap}
use Rattle.rules.specs.Audit.{number_of}
use Rattle.rules.specs.Promises.{AuditNumberPromise, AuditPromise}
use Rattle.books.specs.Verdicts.{verdict_of, of_number}

-- h is the heap that the audit finds; g and k are what two runs of it leave
module _ (h g k : Heap) where
  pub audit_number_one : (m n : ℕ) → AuditNumberPromise h g m → AuditNumberPromise h k n → (m ≡ n) × (g ≡ k)
  audit_number_one m n e f =
      let t = e ∙ sym f in
      (ap (λ (x : ℕ × Heap). x.0) t, ap (λ (x : ℕ × Heap). x.1) t)

  pub audit_one : (v w : Verdict) → AuditPromise h g v → AuditPromise h k w → (v ≡ w) × (g ≡ k)
  audit_one v w e f =
      let t = audit_number_one (number_of v) (number_of w) e f in
      (sym (of_number v) ∙ ap verdict_of t.0 ∙ of_number w, t.1)
