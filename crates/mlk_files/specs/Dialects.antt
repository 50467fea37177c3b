-- The texts of routines as they are read, by how much of M is read. This project's own choice.
use Rattle.std.specs.Prelude.{ℕ, ◌≡◌, ◌+◌, min, List, [], ◌∷◌, Option, None, Some, option_map}
use Rattle.mlk_dialect.specs.declared.dialect.Dialect.{Dialect}
use Rattle.mlk_dialect.specs.declared.dialect.Dialect.TheVariants as dialect
use Rattle.mlk_reading.specs.declared.source.Source.{Source}
use Rattle.mlk_dialect.specs.Plain.{plain, inert}
use Rattle.mlk_files.specs.declared.dialect.PlainSources.{PlainSources}
use Rattle.mlk_files.specs.declared.source.Sources.{Sources}

-- the routine with its plain text, to be read in the extended dialect
pub record IsPlain (source read : Source) : Type 0 where
  pub dialect : read.dialect ≡ dialect.Extended
  pub stem : read.stem.now ≡ source.stem.now
  pub text : read.text.items ≡ plain source.text.items

abbrev pub ArePlain : List Source → List Source → Type 0
ArePlain [] [] = Unit {0}
ArePlain [] (read ∷ reads) = ⊥
ArePlain (source ∷ sources) [] = ⊥
ArePlain (source ∷ sources) (read ∷ reads) = IsPlain source read × ArePlain sources reads

-- how many words of routines are read as any value
abbrev pub inert_of : List Source → ℕ
inert_of [] = 0
inert_of (source ∷ sources) = inert source.text.items + inert_of sources

-- In the extended dialect routines are read by their plain texts, else by their own. The count of words ends at what a number has room
-- for.
abbrev pub ArePlainIn : Dialect → List Source → Option PlainSources → Type 0
ArePlainIn dialect.Standard sources plain = plain ≡ None
ArePlainIn dialect.Extended sources None = ⊥
ArePlainIn dialect.Extended sources (Some plain) =
    ArePlain sources plain.sources.items × (plain.inert ≡ min (inert_of sources) 18446744073709551615)

-- the routines as they are read
abbrev pub plain_or : List Source → Option PlainSources → List Source
plain_or own None = own
plain_or own (Some plain) = plain.sources.items

abbrev pub as_read : Sources → List Source
as_read sources = plain_or sources.routines.items sources.plain

-- on how many words a report rests that are read as any value, if such are read
abbrev pub rests_of : Sources → Option ℕ
rests_of sources = option_map (λ plain. plain.inert) sources.plain
