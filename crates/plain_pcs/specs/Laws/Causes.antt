-- The cause to refuse to commit, to extend or to open is one.
use Rattle.std.proofs.Common.{◌≡◌, ℕ, List, sym, ◌∙◌, ap}
use Rattle.p3_field.specs.Domain.{CosetData}
use Rattle.p3_field.specs.Laws.Checks.{same_failing}
use Rattle.p3_matrix.specs.Matrix.{Rows}
use Rattle.commit_core.specs.Claims.{Request}
use Rattle.plain_pcs.specs.Scheme.{Scheme}
use Rattle.plain_pcs.specs.Refusals.{CommitFault, ExtensionsFault, QuotientFault, OpenFault}
use Rattle.plain_pcs.specs.declared.error.PlainProverError.{PlainProverError}
use Rattle.plain_pcs.specs.declared.error.PlainProverError.TheVariants.{Commit, Open}

module _ {F : Type 0} (s : Scheme F) where
  pub one_commit_cause : (evaluated : List (CosetData F × Rows F)) (e g : PlainProverError) → CommitFault s evaluated e → CommitFault s evaluated g → e ≡ g
  one_commit_cause evaluated (Commit i) (Commit j) f h = ap Commit (same_failing _ _ i j f h)
  one_commit_cause evaluated (Commit i) (Open j) f h = absurd h
  one_commit_cause evaluated (Open i) g f h = absurd f

  pub one_extensions_cause : (extensions : List (Rows F)) (e g : PlainProverError) → ExtensionsFault s extensions e → ExtensionsFault s extensions g → e ≡ g
  one_extensions_cause extensions (Commit i) (Commit j) f h = ap Commit (same_failing _ _ i j f h)
  one_extensions_cause extensions (Commit i) (Open j) f h = absurd h
  one_extensions_cause extensions (Open i) g f h = absurd f

  pub one_quotient_cause : (d : CosetData F) (n : ℕ) (e g : PlainProverError) → QuotientFault s d n e → QuotientFault s d n g → e ≡ g
  one_quotient_cause d n (Commit i) (Commit j) f h = ap Commit (f.0 ∙ sym h.0)
  one_quotient_cause d n (Commit i) (Open j) f h = absurd h
  one_quotient_cause d n (Open i) g f h = absurd f

pub one_open_cause : {F E : Type 0} (requests : List (Request (List (CosetData F × Rows F)) E)) (e g : PlainProverError) → OpenFault requests e → OpenFault requests g → e ≡ g
one_open_cause requests (Commit i) g f h = absurd f
one_open_cause requests (Open i) (Commit j) f h = absurd h
one_open_cause requests (Open i) (Open j) f h = ap Open (same_failing _ _ i j f h)
