-- What the ends in memory hold, and what one call does.
use Rattle.std.specs.Prelude.{◌≡◌, ◌≢◌, ℕ, ◌-◌, min, List, length, Contains, Result, MatchResult}
use Rattle.tool_bytes.specs.Causes.{next_count}

-- a source in memory: the bytes that are left, the numbers of the calls that fail, how many calls there were, and how many failed
pub record MemoryInput : Type 0 where
  pub left : List ℕ
  pub failing : List ℕ
  pub calls : ℕ
  pub faults : ℕ

-- a sink in memory: the bytes that were written, how many there is room for, the most that one call takes, and the same of its calls
pub record MemoryOutput : Type 0 where
  pub written : List ℕ
  pub room : ℕ
  pub most : ℕ
  pub failing : List ℕ
  pub calls : ℕ
  pub faults : ℕ

-- how many bytes of a piece of this length a sink takes, where the call isn't listed
abbrev pub taken_of : MemoryOutput → ℕ → ℕ
taken_of sink size = min (min size sink.most) (sink.room - length sink.written)

-- one call of `read` with a buffer of this length: it fails exactly where it is listed, and else gives all that fits
pub record ReadsMemory {E : Type 0} (old new : MemoryInput) (size : ℕ) (result : Result ℕ E) : Type 0 where
  pub calls : new.calls ≡ next_count old.calls
  pub failing : new.failing ≡ old.failing
  pub answer : MatchResult result
      (λ n. (Contains old.failing old.calls → ⊥) × (n ≡ min (length old.left) size) × (new.faults ≡ old.faults))
      (λ _. Contains old.failing old.calls × (new.faults ≡ next_count old.faults))

-- one call of `write` with a piece of this length: it fails exactly where it is listed or takes nothing
pub record WritesMemory {E : Type 0} (old new : MemoryOutput) (size : ℕ) (result : Result ℕ E) : Type 0 where
  pub calls : new.calls ≡ next_count old.calls
  pub failing : new.failing ≡ old.failing
  pub room : new.room ≡ old.room
  pub most : new.most ≡ old.most
  pub answer : MatchResult result
      (λ n. (Contains old.failing old.calls → ⊥) × (n ≡ taken_of old size) × (new.faults ≡ old.faults))
      (λ _. (taken_of old size ≢ 0 → Contains old.failing old.calls) × (new.faults ≡ next_count old.faults))
