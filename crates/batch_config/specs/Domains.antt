-- The domains of a batch: of the traces, of what is committed, of the quotients and of their chunks, all made from subgroups of the base field. After
-- Plonky3's p3-batch-stark (commitments_with_opening_points).
use Rattle.std.specs.Prelude.{ℕ, ◌+◌, ◌-◌, ◌^◌, List}
use Rattle.p3_field.specs.Ring.{Ring}
use Rattle.p3_field.specs.Poly.{tabulate}
use Rattle.p3_field.specs.Domain.{CosetData, point, subgroup}
use Rattle.batch_config.specs.Setting.{Setting, masks}

-- the point of the next row: the point times the generator of the table's rows, of which there are 2^(bits - masks)
abbrev pub next_by : {F E : Type 0} → Ring E → (F → E) → (ℕ → F) → (masks : ℕ) → E → (bits : ℕ) → E
next_by r embed root masks x bits = r.mul x (embed (root (bits - masks)))

-- the domain that is offered as disjoint from d, 2^k times as large: its shift is d's times the field's generator
abbrev pub offered : {F : Type 0} → Ring F → F → CosetData F → ℕ → CosetData F
offered r generator d k = record { shift = r.mul d.shift generator; log_size = d.log_size + k }

-- the parts of a domain that is split in 2^k: part i begins at point i
abbrev pub parts_of : {F : Type 0} → Ring F → (ℕ → F) → CosetData F → ℕ → List (CosetData F)
parts_of r root d k = tabulate (2 ^ k) (λ i. record { shift = point r root d i; log_size = d.log_size - k })

-- the domains of a quotient's 2^(chunks + masks) chunks: the parts of the domain that is 2^chunks times as large as the subgroup of size 2^bits
abbrev pub chunks_over : {F : Type 0} → Ring F → (ℕ → F) → F → (masks bits chunks : ℕ) → List (CosetData F)
chunks_over r root generator masks bits chunks = parts_of r root (offered r generator (subgroup r bits) chunks) (chunks + masks)

-- the same of a configuration, for a table with this number of degree bits
module _ {S F E C : Type 0} (c : Setting S F E C) where
  abbrev pub chunk_domains : (bits chunks : ℕ) → List (CosetData F)
  chunk_domains bits chunks = chunks_over c.field.ring c.field.root c.field.generator (masks c) bits chunks
