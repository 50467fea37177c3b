-- The limits of every certificate: names are names, numbers are in range, lists are in order and not too long. The limits are
-- this project's own choice; names and labels are those of ISO/IEC 11756.
use Rattle.std.specs.Prelude.{ℕ, ◌≡◌, ◌≤◌, ◌==◌, ◌&&◌, ◌||◌, nat_lt, Bool, true, List, ◌∷◌, length, map, Option, Some, None, []}
use Rattle.mlk_names.specs.declared.term.LockTerm.{LockTerm}
use Rattle.mlk_cert_parts.specs.declared.case.Case.{Case}
use Rattle.mlk_cert_parts.specs.declared.case.ExitCase.{ExitCase}
use Rattle.mlk_cert_parts.specs.declared.names.NameSet.{NameSet}
use Rattle.mlk_cert_parts.specs.declared.names.NameSet.TheVariants.{Only, AllBut}
use Rattle.mlk_cert_parts.specs.declared.names.Own.{Own}
use Rattle.mlk_cert_parts.specs.declared.block.Point.{Point}
use Rattle.mlk_cert_parts.specs.declared.block.Summary.{Summary}
use Rattle.mlk_cert_parts.specs.declared.block.EntryCert.{EntryCert}
use Rattle.mlk_cert_lexemes.specs.Lists.{Each, ascends, below}
use Rattle.mlk_cert_lexemes.specs.Kinds.{ReadsAsName, IsEntryText, IsTerm, terms_upto}
use Rattle.mlk_cert_parts.specs.Texts.{names_text, case_text, exit_text}

-- a text has at most 64 MiB
abbrev pub longest : ℕ
longest = 67108864

-- sets of names are in the order of their texts
abbrev pub names_below : NameSet → NameSet → Bool
names_below n m = below (names_text n) (names_text m)

-- own names are in the order of their levels, and on one level in that of their texts
abbrev pub own_below : Own → Own → Bool
own_below o p = nat_lt o.level p.level || ((o.level == p.level) && names_below o.names p.names)

-- terms of a list: at most 16
pub record AreTerms (terms : List LockTerm) : Type 0 where
  pub each : Each IsTerm terms
  pub few : length terms ≤ 16
  pub order : ascends terms_upto terms ≡ true

-- the names inside parentheses: they ascend without duplicates
abbrev pub IsNameSet : NameSet → Type 0
IsNameSet (Only name) = ReadsAsName name
IsNameSet (AllBut names) = Each ReadsAsName names × (ascends below names ≡ true)

-- names that may change: at most 1,024, ascending without duplicates
pub record AreMods (mods : List NameSet) : Type 0 where
  pub each : Each IsNameSet mods
  pub few : length mods ≤ 1024
  pub order : ascends names_below mods ≡ true

-- own names, at levels from 1 to 15
abbrev pub IsOwn : Own → Type 0
IsOwn o = (1 ≤ o.level) × (o.level ≤ 15) × IsNameSet o.names

-- at most 64, ascending without duplicates
pub record AreOwn (own : List Own) : Type 0 where
  pub each : Each IsOwn own
  pub few : length own ≤ 64
  pub order : ascends own_below own ≡ true

-- kept names: at most 64, ascending without duplicates
pub record AreKept (kept : List (List ℕ)) : Type 0 where
  pub each : Each ReadsAsName kept
  pub few : length kept ≤ 64
  pub order : ascends below kept ≡ true

pub record IsCase (c : Case) : Type 0 where
  pub held : AreTerms c.held
  pub own : AreOwn c.own
  pub kept : AreKept c.kept

pub record IsExit (e : ExitCase) : Type 0 where
  pub held : AreTerms e.held
  pub kept : AreKept e.kept

-- cases are in the order of their texts, without duplicates
abbrev pub cases_below : Case → Case → Bool
cases_below c d = below (case_text c) (case_text d)

abbrev pub exits_below : ExitCase → ExitCase → Bool
exits_below e f = below (exit_text e) (exit_text f)

-- a rank is at most 999,999
abbrev pub IsLow : Option ℕ → Type 0
IsLow None = Unit {0}
IsLow (Some rank) = rank ≤ 999999

-- at most 16 exits, ascending without duplicates
pub record IsSummary (s : Summary) : Type 0 where
  pub need : AreTerms s.need
  pub low : IsLow s.low
  pub mods : AreMods s.mods
  pub each_exit : Each IsExit s.exits
  pub few_exits : length s.exits ≤ 16
  pub exit_order : ascends exits_below s.exits ≡ true

-- a point: a line from 1 to 65,535, a round from 0 to 255, and from 1 to 16 cases, ascending without duplicates
pub record IsPoint (p : Point) : Type 0 where
  pub from_one : 1 ≤ p.line
  pub line : p.line ≤ 65535
  pub round : p.round ≤ 255
  pub each : Each IsCase p.cases
  pub some_case : 1 ≤ length p.cases
  pub few : length p.cases ≤ 16
  pub order : ascends cases_below p.cases ≡ true

-- points are in the order of their lines, and on one line in that of their rounds
abbrev pub points_below : Point → Point → Bool
points_below p q = nat_lt p.line q.line || ((p.line == q.line) && nat_lt p.round q.round)

pub record IsBlock (b : EntryCert) : Type 0 where
  pub entry : IsEntryText b.entry
  pub summary : IsSummary b.summary
  pub each_point : Each IsPoint b.points
  pub order : ascends points_below b.points ≡ true

-- no text occurs twice
abbrev pub TextsDiffer : List (List ℕ) → Type 0
TextsDiffer [] = Unit {0}
TextsDiffer (t ∷ texts) = Each (λ u. u ≡ t → ⊥) texts × TextsDiffer texts

-- A certificate: blocks of entries, no two with the same entry text.
pub record IsCertificate (blocks : List EntryCert) : Type 0 where
  pub each : Each IsBlock blocks
  pub distinct : TextsDiffer (map (λ b. b.entry) blocks)
