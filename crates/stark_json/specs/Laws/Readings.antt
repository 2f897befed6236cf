-- Texts with one reading have one answer.
use Rattle.std.specs.Prelude.{◌≡◌, ℕ, List}
use Rattle.std.proofs.Common.{inl, inr, subst}
use Rattle.serde_json.specs.Data.{Data}
use Rattle.tool_proof_files.specs.Files.{FileData}
use Rattle.tool_verifier.specs.declared.status.Status.TheVariants.{Done, Refused, Usage, BadInput, ReadFault, WriteFault, OutOfMemory, TooLarge}
use Rattle.json_proof_files.specs.Answer.{IsJsonOf, IsNoFile, ReadsAs}
use Rattle.json_proof_files.specs.FileTrees.{file_tree}
use Rattle.json_proof_files.specs.Laws.Readings.{one-reading}
use Rattle.stark_json.specs.Answer.{IsBadJson, IsFromJsonAnswer, IsVerifyJsonAnswer}
use Rattle.stark_json.specs.Readings.{ByReading}

same-json : (bytes other : List ℕ) (d : Data) → ReadsAs bytes d → ReadsAs other d → (file : FileData) → IsJsonOf bytes file → IsJsonOf other file
same-json bytes other d p q file j =
    let same : d ≡ file_tree file = one-reading bytes d (file_tree file) p j.1 in
    (j.0, subst (λ (e : Data). ReadsAs other e) same q)

same-bad : (bytes other : List ℕ) (d : Data) → ReadsAs bytes d → ReadsAs other d → (text : List ℕ) → IsBadJson bytes text → IsBadJson other text
same-bad bytes other d p q text (inl b) = absurd (b.0 d p)
same-bad bytes other d p q text (inr b) =
    let same : b.0.0 ≡ d = one-reading bytes b.0.0 d b.0.1 p in
    inr ((d, q, subst (λ (e : Data). IsNoFile e) same b.0.2), b.1)

pub from-by-reading : ByReading IsFromJsonAnswer
from-by-reading bytes other d p q Done text a = (a.0, same-json bytes other d p q a.0 a.1, a.2)
from-by-reading bytes other d p q BadInput text a = same-bad bytes other d p q text a
from-by-reading bytes other d p q Refused text a = absurd a
from-by-reading bytes other d p q Usage text a = absurd a
from-by-reading bytes other d p q ReadFault text a = absurd a
from-by-reading bytes other d p q WriteFault text a = absurd a
from-by-reading bytes other d p q OutOfMemory text a = absurd a
from-by-reading bytes other d p q TooLarge text a = absurd a

pub verify-by-reading : ByReading IsVerifyJsonAnswer
verify-by-reading bytes other d p q BadInput text a = same-bad bytes other d p q text a
verify-by-reading bytes other d p q Done text a = (a.0, same-json bytes other d p q a.0 a.1, a.2)
verify-by-reading bytes other d p q Refused text a = (a.0, same-json bytes other d p q a.0 a.1, a.2)
verify-by-reading bytes other d p q Usage text a = (a.0, same-json bytes other d p q a.0 a.1, a.2)
verify-by-reading bytes other d p q ReadFault text a = (a.0, same-json bytes other d p q a.0 a.1, a.2)
verify-by-reading bytes other d p q WriteFault text a = (a.0, same-json bytes other d p q a.0 a.1, a.2)
verify-by-reading bytes other d p q OutOfMemory text a = (a.0, same-json bytes other d p q a.0 a.1, a.2)
verify-by-reading bytes other d p q TooLarge text a = (a.0, same-json bytes other d p q a.0 a.1, a.2)
