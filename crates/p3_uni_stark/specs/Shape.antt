-- Degree bits within their bounds, and counts of openings. The rules are those of Plonky3's p3-uni-stark
-- (validate_degree_bits, num_batched_openings).
use Rattle.std.specs.Prelude.{◌≡◌, ℕ, ◌+◌, ◌*◌, ◌<◌, Bool, true, false, Option}
use Rattle.p3_uni_stark.specs.declared.openings.OpeningShape.{OpeningShape}
use Rattle.p3_uni_stark.specs.declared.openings.OpeningShape.TheVariants.{Univariate, Circle}
use Rattle.p3_uni_stark.specs.declared.error.InvalidProofShapeError.{InvalidProofShapeError}
use Rattle.p3_uni_stark.specs.declared.error.InvalidProofShapeError.TheVariants.{InstanceCountMismatch, DegreeBitsTooSmall, DegreeBitsTooLarge, QuotientDomainTooLarge, TraceNextMismatch, UnexpectedTraceNext, UnexpectedPreprocessedValues, UnexpectedPreprocessedNext, PublicValuesLengthMismatch, TraceLocalWidthMismatch, QuotientChunksCountMismatch, QuotientChunkDimensionMismatch, PreprocessedWidthMismatch, PreprocessedMetadataMismatch, MissingPreprocessedValues, QuotientDomainsCountMismatch}

-- which bound the degree bits of a table fail, by the error's name and fields: `least` is the fewest that are taken,
-- `most` the greatest number
abbrev pub IsBeyond : Option ℕ → ℕ → ℕ → ℕ → InvalidProofShapeError → Type 0
IsBeyond air bits least most (DegreeBitsTooSmall a m g) = (bits < least) × (a ≡ air) × (m ≡ least) × (g ≡ bits)
IsBeyond air bits least most (DegreeBitsTooLarge a m g) = (most < bits) × (a ≡ air) × (m ≡ most) × (g ≡ bits)
IsBeyond air bits least most InstanceCountMismatch = ⊥
IsBeyond air bits least most (QuotientDomainTooLarge a m g) = ⊥
IsBeyond air bits least most (TraceNextMismatch a) = ⊥
IsBeyond air bits least most (UnexpectedTraceNext a) = ⊥
IsBeyond air bits least most (UnexpectedPreprocessedValues a) = ⊥
IsBeyond air bits least most (UnexpectedPreprocessedNext a) = ⊥
IsBeyond air bits least most (PublicValuesLengthMismatch e g) = ⊥
IsBeyond air bits least most (TraceLocalWidthMismatch a e g) = ⊥
IsBeyond air bits least most (QuotientChunksCountMismatch a e g) = ⊥
IsBeyond air bits least most (QuotientChunkDimensionMismatch a) = ⊥
IsBeyond air bits least most (PreprocessedWidthMismatch a) = ⊥
IsBeyond air bits least most (PreprocessedMetadataMismatch a) = ⊥
IsBeyond air bits least most (MissingPreprocessedValues a) = ⊥
IsBeyond air bits least most (QuotientDomainsCountMismatch a) = ⊥

-- how often a row of this width is opened: once, and again where its next row is declared
abbrev pub row_openings : ℕ → Bool → ℕ
row_openings width true = width * 2
row_openings width false = width

-- the values that a table without lookups opens: its main and preprocessed rows, and each chunk's coefficients
abbrev pub opened_count : ℕ → Bool → ℕ → Bool → ℕ → ℕ → ℕ
opened_count main main_next preprocessed preprocessed_next chunks dimension =
    row_openings main main_next + row_openings preprocessed preprocessed_next + chunks * dimension

-- how many powers of its challenge a backend takes for an opened value
abbrev pub powers : OpeningShape → ℕ
powers Univariate = 1
powers Circle = 2
