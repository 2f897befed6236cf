-- What the commands answer, from what their parts do.
use Rattle.std.specs.Prelude.{◌≡◌, ℕ, List, codes, Result, Ok, Err, IfOk, IsErr, refl}
use Rattle.std.proofs.Common.{sym, ap, ◌∙◌, inl, inr, subst}
use Rattle.std.proofs.lemmas.Bool.{false≢true}
use Rattle.std.specs.declared.alloc.AllocError.{AllocError}
use Rattle.serde_json.specs.Written.{compact_text}
use Rattle.tool_lines.specs.Texts.{line_text}
use Rattle.tool_proof_files.specs.Files.{FileData, FileWithin, file_numbers, version_of}
use Rattle.tool_run.specs.BadInput.{IsBadInput}
use Rattle.tool_verifier.specs.FileAnswer.{IsFileAnswer}
use Rattle.tool_verifier.specs.declared.answer.Answer.{Answer}
use Rattle.tool_verifier.specs.declared.status.Status.{Status}
use Rattle.tool_verifier.specs.declared.status.Status.TheVariants.{Done, Refused, Usage, BadInput, ReadFault, WriteFault, OutOfMemory, TooLarge}
use Rattle.json_proof_files.specs.Answer.{IsJsonOf, WhyNot}
use Rattle.json_proof_files.specs.Laws.Readings.{one-file, one-reading}
use Rattle.json_proof_files.specs.FileTrees.{file_tree}
use Rattle.json_proof_files.specs.declared.calls.JsonError.{JsonError}
use Rattle.json_proof_files.specs.declared.calls.JsonError.TheVariants.{NotJson, NotProof, OutOfMemory as NoMemory}
use Rattle.stark_json.specs.Answer.{ComesBack, IsBadJson, IsFromJsonAnswer, IsToJsonAnswer, IsVerifyJsonAnswer}

-- the JSON of a file is no bad JSON
pub not-bad : (json text : List ℕ) (file : FileData) → IsJsonOf json file → IsBadJson json text → ⊥
not-bad json text file j (inl b) = b.0 (file_tree file) j.1
not-bad json text file j (inr b) =
    let d = b.0.0 in
    b.0.2 file j.0 (one-reading json (file_tree file) d j.1 b.0.1)

-- what is written as the JSON of a file comes back as the file's lines
pub comes-back : (json : List ℕ) (file : FileData) → IsJsonOf json file → ComesBack json (line_text (file_numbers file))
comes-back json file j Done text a = (refl, a.2 ∙ ap (λ (f : FileData). line_text (file_numbers f)) (one-file json a.0 file a.1 j))
comes-back json file j BadInput text a = absurd (not-bad json text file j a)
comes-back json file j Refused text a = absurd a
comes-back json file j Usage text a = absurd a
comes-back json file j ReadFault text a = absurd a
comes-back json file j WriteFault text a = absurd a
comes-back json file j OutOfMemory text a = absurd a
comes-back json file j TooLarge text a = absurd a

-- what the answer for bad JSON says
pub bad-json : (bytes : List ℕ) (e : JsonError) (r : Result Answer AllocError) → WhyNot bytes e
    → (e ≡ NotJson → IfOk r (λ a. (a.status ≡ BadInput) × (a.text.items ≡ codes "bad json\n")))
    → (e ≡ NotProof → IfOk r (λ a. (a.status ≡ BadInput) × (a.text.items ≡ codes "bad tree\n")))
    → (e ≡ NoMemory → IsErr r) → IfOk r (λ a. (a.status ≡ BadInput) × IsBadJson bytes a.text.items)
bad-json bytes NotJson (Ok a) why json tree memory = let f = json refl in (f.0, inl (why, f.1))
bad-json bytes NotProof (Ok a) why json tree memory = let f = tree refl in (f.0, inr (why, f.1))
bad-json bytes NoMemory (Ok a) why json tree memory = absurd (false≢true (memory refl))
bad-json bytes e (Err x) why json tree memory = tt

-- the answer of a status that is known
pub from-bad : (bytes : List ℕ) (r : Result Answer AllocError) → IfOk r (λ a. (a.status ≡ BadInput) × IsBadJson bytes a.text.items)
    → IfOk r (λ a. IsFromJsonAnswer bytes a.status a.text.items)
from-bad bytes (Ok a) h = subst (λ (s : Status). IsFromJsonAnswer bytes s a.text.items) (sym h.0) h.1
from-bad bytes (Err x) h = tt

pub from-done : (bytes : List ℕ) (file : FileData) (status : Status) (text : List ℕ) → IsJsonOf bytes file → status ≡ Done → text ≡ line_text (file_numbers file)
    → IsFromJsonAnswer bytes status text
from-done bytes file status text j is lines = subst (λ (s : Status). IsFromJsonAnswer bytes s text) (sym is) (file, j, lines)

pub to-bad : (bytes : List ℕ) (r : Result Answer AllocError) → IfOk r (λ a. (a.status ≡ BadInput) × IsBadInput FileWithin file_numbers bytes a.text.items)
    → IfOk r (λ a. IsToJsonAnswer bytes a.status a.text.items)
to-bad bytes (Ok a) h = subst (λ (s : Status). IsToJsonAnswer bytes s a.text.items) (sym h.0) h.1
to-bad bytes (Err x) h = tt

pub to-done : (bytes : List ℕ) (file : FileData) (status : Status) (text json : List ℕ) → bytes ≡ line_text (file_numbers file) → status ≡ Done → text ≡ json
    → json ≡ compact_text (file_tree file) → IsJsonOf json file → IsToJsonAnswer bytes status text
to-done bytes file status text json lines is same compact j =
    subst (λ (s : Status). IsToJsonAnswer bytes s text) (sym is)
    (subst (λ (t : List ℕ). IsToJsonAnswer bytes Done t) (sym same)
    (file, lines, compact, j, subst (λ (l : List ℕ). ComesBack json l) (sym lines) (comes-back json file j)))

pub verify-bad : (bytes : List ℕ) (r : Result Answer AllocError) → IfOk r (λ a. (a.status ≡ BadInput) × IsBadJson bytes a.text.items)
    → IfOk r (λ a. IsVerifyJsonAnswer bytes a.status a.text.items)
verify-bad bytes (Ok a) h = subst (λ (s : Status). IsVerifyJsonAnswer bytes s a.text.items) (sym h.0) h.1
verify-bad bytes (Err x) h = tt

verified-at : (bytes : List ℕ) (file : FileData) (status : Status) (text : List ℕ) → IsJsonOf bytes file
    → IsFileAnswer (version_of file.version) file.tables file.proof status text → IsVerifyJsonAnswer bytes status text
unfolding IsFileAnswer
verified-at bytes file Done text j a = (file, j, a)
verified-at bytes file Refused text j a = (file, j, a)
verified-at bytes file Usage text j a = (file, j, a)
verified-at bytes file BadInput text j a = absurd a
verified-at bytes file ReadFault text j a = (file, j, a)
verified-at bytes file WriteFault text j a = (file, j, a)
verified-at bytes file OutOfMemory text j a = (file, j, a)
verified-at bytes file TooLarge text j a = (file, j, a)

pub verified : (bytes : List ℕ) (file : FileData) (r : Result Answer AllocError) → IsJsonOf bytes file
    → IfOk r (λ a. IsFileAnswer (version_of file.version) file.tables file.proof a.status a.text.items) → IfOk r (λ a. IsVerifyJsonAnswer bytes a.status a.text.items)
verified bytes file (Ok a) j h = verified-at bytes file a.status a.text.items j h
verified bytes file (Err x) j h = tt
