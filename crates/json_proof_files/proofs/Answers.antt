-- What the two calls answer, from what their parts do.
use Rattle.std.proofs.Common.{◌≡◌, ◌<◌, ℕ, List, [], ◌∷◌, length, refl, sym, ap, ◌∙◌, subst, arith, ◌≤◌, false, None, Some, Result, Ok, Err, Vec}
use Rattle.std.specs.Prelude.{IfOk, IsUtf8}
use Rattle.std.specs.declared.alloc.AllocError.{AllocError}
use Rattle.std.specs.declared.alloc.Global.{Global}
use Rattle.serde_json.specs.Data.{Data, depth}
use Rattle.serde_json.specs.Read.{max_depth, read}
use Rattle.serde_json.proofs.OnLiterals.{serde_json_on_literals}
use Rattle.serde_json.specs.Written.{compact_text, has_float}
use Rattle.tool_proof_files.specs.Files.{FileData, FileWithin}
use Rattle.json_proof_files.specs.Answer.{IsJsonOf, ReadsAs, ReadsFile, ReadsJson, WhyNot}
use Rattle.json_proof_files.specs.FileTrees.{file_tree}
use Rattle.json_proof_files.specs.FileReadings.{file_reading}
use Rattle.json_proof_files.specs.Laws.FileForms.{file-form}
use Rattle.json_proof_files.specs.Laws.Plain.{file-plain}
use Rattle.json_proof_files.specs.Laws.Readings.{not-a-file, one-file, one-reading}
use Rattle.json_proof_files.specs.declared.calls.JsonError.{JsonError}
use Rattle.json_proof_files.specs.declared.calls.JsonError.TheVariants.{NotJson, NotProof, OutOfMemory}

-- bytes whose tree is read as a file
pub is-file : (bytes : List ℕ) (d : Data) (f : FileData) → ReadsAs bytes d → file_reading d ≡ Some f → IsJsonOf bytes f
is-file bytes d f p e =
    let h = file-form.forth d f e in
    (h.0, subst (λ (t : Data). ReadsAs bytes t) (sym h.1) p)

-- whose tree is read as none
pub is-no-file : (bytes : List ℕ) (d : Data) → ReadsAs bytes d → file_reading d ≡ None → WhyNot bytes NotProof
is-no-file bytes d p e = (d, p, not-a-file d e)

-- bytes that are read aren't none
pub some-bytes : (bytes : List ℕ) (d : Data) → ReadsAs bytes d → 0 < length bytes
unfolding serde_json_on_literals
some-bytes [] d p = let t : None ≡ Some d = p.1 in absurd (cc)
some-bytes (b ∷ bytes) d p = omega arith

-- a reading of bytes gives the one file whose JSON they are
pub reads-file : {A : Type 0} (data_of : A → FileData) (bytes : List ℕ) (r : Result A JsonError) → ReadsJson data_of bytes r → ReadsFile data_of bytes r
reads-file data_of bytes (Ok f) h file j = one-file bytes (data_of f) file h j
reads-file data_of bytes (Err NotJson) h file j = absurd (h (file_tree file) j.1)
reads-file data_of bytes (Err NotProof) h file j = absurd (h.2 file j.0 (one-reading bytes (file_tree file) h.0 j.1 h.1))
reads-file data_of bytes (Err OutOfMemory) h file j = refl

-- what is written of a file's tree
pub text-of : (f : FileData) (t : Data) (r : Result (Vec ℕ Global) AllocError) → t ≡ file_tree f → IfOk r (λ b. has_float t ≡ false → b.items ≡ compact_text t)
    → IfOk r (λ b. b.items ≡ compact_text (file_tree f))
text-of f t (Ok b) same text = text (ap has_float same ∙ (file-plain f).exact) ∙ ap compact_text same
text-of f t (Err e) same text = tt

pub json-of : (f : FileData) (t : Data) (r : Result (Vec ℕ Global) AllocError) → t ≡ file_tree f → FileWithin f → IfOk r (λ b. IsUtf8 b.items)
    → IfOk r (λ b. depth t ≤ max_depth → read b.items ≡ Some t) → IfOk r (λ b. IsJsonOf b.items f)
json-of f t (Ok b) same fits utf8 reads =
    let shallow : depth t ≤ 6 = subst (λ (u : Data). depth u ≤ 6) (sym same) (file-plain f).shallow in
    (fits, (utf8, reads (omega (arith, shallow)) ∙ ap Some same))
json-of f t (Err e) same fits utf8 reads = tt
