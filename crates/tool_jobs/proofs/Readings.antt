-- How the reading stops of a table after its kind.
use Rattle.std.proofs.Common.{◌≡◌, ℕ, zero, suc, ◌<◌, ◌≤◌, List, [], ◌∷◌, ◌++◌, sym, ◌∙◌, arith, append_assoc, Result, Ok, Err}
use Rattle.std.specs.Prelude.{decimal, IfErr, IsErrAnd}
use Rattle.tool_lines.specs.Texts.{Between, Reads, ReadsOne, one_number}
use Rattle.tool_lines.specs.Laws.Lines.{same-line}
use Rattle.tool_lines.specs.Laws.Stops.{pair-reads, pair-second, same-reads, same-stops}
use Rattle.tool_lines.specs.declared.texts.ItemError.{ItemError}
use Rattle.tool_lines.specs.declared.texts.ItemError.TheVariants.{Malformed, OutOfMemory}
use Rattle.p3_field.specs.declared.baby_bear.BabyBear.{BabyBear}
use Rattle.law_tool_valid.specs.Job.{IsJobTableWithin, JobTable}
use Rattle.tool_jobs.specs.Jobs.{BeginsList, table_numbers}
use Rattle.tool_jobs.specs.Laws.Kinds.{KindWithin, body_numbers}
use Rattle.tool_jobs.specs.Laws.Texts.{same-table, tag-grammar}

-- a table whose kind was read
pub table-after : {V : Type 0} (data_of : V → JobTable BabyBear) (old mid new : List ℕ) (kind : ℕ) (r : Result V ItemError)
    → Reads (Between 1 5) one_number old mid kind → ReadsOne data_of (KindWithin kind) body_numbers mid new r → ReadsOne data_of IsJobTableWithin table_numbers old new r
unfolding same-table
table-after data_of old mid new kind (Ok v) n s = same-reads same-table (pair-reads KindWithin n s)
table-after data_of old mid new kind (Err e) n s = λ m. same-stops same-table (pair-second KindWithin tag-grammar n (s m))

-- a fault that is handed on isn't out of memory
pub malformed-alone : {V : Type 0} (P : Type 0) (e : ItemError) (r : Result V ItemError) → IsErrAnd r (λ x. x ≡ e) → e ≡ Malformed → IfErr r (λ x. x ≡ OutOfMemory → P)
malformed-alone P e (Ok v) p f = absurd p
malformed-alone P e (Err x) p f = λ m. absurd (let q : Malformed ≡ OutOfMemory = sym f ∙ (sym p ∙ m) in cc)

-- a first line that isn't above 2 is the kind, of which no table runs out of memory
not-below : (old mid : List ℕ) (kind : ℕ) (e : ItemError) → Reads (Between 1 5) one_number old mid kind → (kind ≤ 2 → e ≡ Malformed) → e ≡ OutOfMemory
    → (n : ℕ) (rest : List ℕ) → n < 3 → old ≡ decimal n ++ 10 ∷ rest → 3 ≤ n
not-below old mid kind e r h m n rest low t =
    let high = r.fits.1 in
    let same = same-line kind n mid rest (omega (arith, high)) (omega (arith, low)) (sym (append_assoc (decimal kind) (10 ∷ []) mid) ∙ (sym r.text ∙ t)) in
    let k = same.0 in
    let few : kind ≤ 2 = omega (arith, k, low) in
    absurd (let q : Malformed ≡ OutOfMemory = sym (h few) ∙ m in cc)

from-three : (old mid : List ℕ) (kind : ℕ) (e : ItemError) → Reads (Between 1 5) one_number old mid kind → (kind ≤ 2 → e ≡ Malformed) → e ≡ OutOfMemory
    → (n : ℕ) (rest : List ℕ) → old ≡ decimal n ++ 10 ∷ rest → 3 ≤ n
from-three old mid kind e r h m zero rest t = not-below old mid kind e r h m 0 rest (omega arith) t
from-three old mid kind e r h m (suc zero) rest t = not-below old mid kind e r h m 1 rest (omega arith) t
from-three old mid kind e r h m (suc (suc zero)) rest t = not-below old mid kind e r h m 2 rest (omega arith) t
from-three old mid kind e r h m (suc (suc (suc n))) rest t = omega arith

-- a table that ran out of memory has a list
pub lists-alone : {V : Type 0} (old mid : List ℕ) (kind : ℕ) (r : Result V ItemError) → Reads (Between 1 5) one_number old mid kind
    → (kind ≤ 2 → IfErr r (λ e. e ≡ Malformed)) → IfErr r (λ e. e ≡ OutOfMemory → (n : ℕ) (rest : List ℕ) → old ≡ decimal n ++ 10 ∷ rest → 3 ≤ n)
lists-alone old mid kind (Ok v) r h = tt
lists-alone old mid kind (Err e) r h = from-three old mid kind e r h

at-three : (kind : ℕ) (e : ItemError) → (kind ≤ 2 → e ≡ Malformed) → e ≡ OutOfMemory → 3 ≤ kind
at-three zero e h m = absurd (let q : Malformed ≡ OutOfMemory = sym (h (omega arith)) ∙ m in cc)
at-three (suc zero) e h m = absurd (let q : Malformed ≡ OutOfMemory = sym (h (omega arith)) ∙ m in cc)
at-three (suc (suc zero)) e h m = absurd (let q : Malformed ≡ OutOfMemory = sym (h (omega arith)) ∙ m in cc)
at-three (suc (suc (suc n))) e h m = omega arith

-- the text of a table that ran out of memory begins with the kind of one that has a list
pub list-there : {V : Type 0} (old mid : List ℕ) (kind : ℕ) (r : Result V ItemError) → Reads (Between 1 5) one_number old mid kind
    → (kind ≤ 2 → IfErr r (λ e. e ≡ Malformed)) → IfErr r (λ e. e ≡ OutOfMemory → BeginsList old)
list-there old mid kind (Ok v) r h = tt
list-there old mid kind (Err e) r h = λ m. (kind, mid, r.text ∙ append_assoc (decimal kind) (10 ∷ []) mid, at-three kind e h m, r.fits.1)
