-- Entries, summaries, points, blocks, and their readers.
use Rattle.std.proofs.Common.{◌≡◌, ◌≤◌, ℕ, ◌++◌, List, ◌∷◌, length, Some, None, true, refl, sym, ap, ◌∙◌, arith, subst, append_assoc, lit<, []}
use Rattle.std.specs.Prelude.{codes}
use Rattle.std.specs.Fmt.{decimal}
use Rattle.mlk_text.specs.Reading.{◌>>=◌, with}
use Rattle.mlk_text.specs.Lexemes.{byte_at, digits}
use Rattle.mlk_text.proofs.Readers.{then_some, with_some}
use Rattle.mlk_cert_parts.specs.declared.case.ExitCase.{ExitCase}
use Rattle.mlk_cert_parts.specs.declared.block.Point.{Point}
use Rattle.mlk_cert_parts.specs.declared.block.Summary.{Summary}
use Rattle.mlk_cert_parts.specs.declared.block.EntryCert.{EntryCert}
use Rattle.mlk_cert_lexemes.specs.Lists.{Each, flat, ascends}
use Rattle.mlk_cert_lexemes.specs.Texts.{listed, term_text}
use Rattle.mlk_cert_parts.specs.Texts.{names_text, case_text, exit_text, exit_line, place_text, point_text, low_text, drops_text, summary_text}
use Rattle.mlk_cert_lexemes.specs.Kinds.{IsTerm, IsEntryText}
use Rattle.mlk_cert_parts.specs.Limits.{IsLow, IsSummary, IsPoint, points_below}
use Rattle.mlk_cert_parts.specs.Checks.{fit_terms, fit_mods, fits_exit, fit_exits, fit_points, fits}
use Rattle.mlk_cert_lexemes.specs.Reading.{word_at, number_at, positive, listed_at, term_at, part_at, entry_at}
use Rattle.mlk_cert_parts.specs.Reading.{names_at, exit_at, case_at}
use Rattle.mlk_cert.specs.Blocks.{fit, rest_at, worded_at, low_at, drops_at, exits_at, summary_of, summary_at, Listed, place_at, listed_of, listed_case_at, fits_listed, grouped, points_at, ReadsPoints, block_of, block_at}
use Rattle.mlk_cert_lexemes.proofs.Formats.{Format, Anything, byte-is, part-is, part-back, both_true, both_back}
use Rattle.mlk_cert_lexemes.proofs.NumberFormats.{number-format, positive-is, not-zero}
use Rattle.mlk_cert_lexemes.proofs.NameFormats.{NoName}
use Rattle.mlk_cert_lexemes.proofs.TermFormats.{EndsTerms, EndsNames, terms-format}
use Rattle.mlk_cert_lexemes.proofs.EntryFormats.{entry_text, entry-format}
use Rattle.mlk_cert_parts.proofs.CaseFormats.{HasNames, HasCase, HasExit, NoSign, mods-format, exit-format, case-format}
use Rattle.mlk_cert_lexemes.proofs.Room.{no-longer}
use Rattle.mlk_cert.proofs.LineFormats.{fit-is, rest-format, worded-is, worded-back, low-format, drops-format, IsDrops, EndsLow}
use Rattle.mlk_cert.proofs.Grouping.{listed_text, listed_line, lines_of, points-text, HasCases, grouped-lines, grouped-cases, grouped-back}
use Rattle.mlk_cert.proofs.Goods.{terms-good, terms-fit, mods-good, mods-has, GoodExit, exits-good, exits-has, few-exits, exits-fit, GoodListed, points-good, points-has}

-- exits
pub exit-rest : Format (λ e. exit_text e ++ 10 ∷ []) GoodExit Anything (rest_at exit_at fits_exit)
exit-rest = rest-format exit_text HasExit EndsNames exit_at exit-format fits_exit (λ n. (refl, refl))

abbrev AreExits : List ExitCase → Type 0
AreExits es = Each GoodExit es × (fit_exits es ≡ true)

abbrev pub NoExit : List ℕ → Type 0
NoExit ys = word_at (codes "exit ") ys ≡ None

exits-is : (es : List ExitCase) (xs ys : List ℕ) → exits_at xs ≡ Some (es, ys) → (xs ≡ flat exit_line es ++ ys) × AreExits es
unfolding exits_at
exits-is es xs ys h =
    let w = then_some (worded_at (codes "exit ") (rest_at exit_at fits_exit) xs) (fit fit_exits) (es, ys) h in
    let t = fit-is fit_exits w.0 (es, ys) w.2 in
    let s = worded-is (λ e. exit_text e ++ 10 ∷ []) GoodExit Anything (rest_at exit_at fits_exit) exit-rest (codes "exit ") es xs ys (w.1 ∙ ap (λ z. Some z) t.0) in
    (s.0, (s.1, t.1))

exits-back : (es : List ExitCase) (ys : List ℕ) → AreExits es → NoExit ys → exits_at (flat exit_line es ++ ys) ≡ Some (es, ys)
unfolding exits_at
exits-back es ys is none =
    rw (worded-back (λ e. exit_text e ++ 10 ∷ []) GoodExit Anything (rest_at exit_at fits_exit) exit-rest (codes "exit ") (omega arith) (λ _. tt) es ys is.0 tt none) (rw is.1 refl)

-- a summary
abbrev rest_of : {A : Type 0} → (A → List ℕ) → A → List ℕ
rest_of text a = text a ++ 10 ∷ []

need-rest : Format (rest_of (listed term_text)) (λ ts. Each IsTerm ts × (fit_terms ts ≡ true)) Anything (rest_at (listed_at term_at) fit_terms)
need-rest = rest-format (listed term_text) (Each IsTerm) EndsTerms (listed_at term_at) terms-format fit_terms (λ n. ((refl, refl), refl))

low-rest : Format (rest_of low_text) (λ l. IsLow l × (fits l ≡ true)) Anything (rest_at low_at fits)
low-rest = rest-format low_text IsLow EndsLow low_at low-format fits (λ n. (refl, refl))

drops-rest : Format (rest_of drops_text) (λ d. IsDrops d × (fits d ≡ true)) Anything (rest_at drops_at fits)
drops-rest = rest-format drops_text IsDrops Anything drops_at drops-format fits (λ n. tt)

mods-rest : Format (rest_of (listed names_text)) (λ ms. Each HasNames ms × (fit_mods ms ≡ true)) Anything (rest_at (listed_at names_at) fit_mods)
mods-rest = rest-format (listed names_text) (Each HasNames) EndsNames (listed_at names_at) mods-format fit_mods (λ n. (refl, refl))

summary-parts : (s : Summary) (ys : List ℕ)
    → summary_text s ++ ys
    ≡ codes "need " ++ (rest_of (listed term_text) s.need ++ (codes "low " ++ (rest_of low_text s.low ++ (codes "drops " ++ (rest_of drops_text s.drops ++ (codes "mods " ++ (rest_of (listed names_text) s.mods ++ (flat exit_line s.exits ++ ys))))))))
summary-parts s ys = simp append_assoc

summary-is : (s : Summary) (xs ys : List ℕ) → summary_at xs ≡ Some (s, ys) → (xs ≡ summary_text s ++ ys) × IsSummary s
unfolding summary_at
summary-is s xs ys h =
    let n = then_some (part_at (codes "need ") (rest_at (listed_at term_at) fit_terms) xs) _ (s, ys) h in
    let l = then_some (part_at (codes "low ") (rest_at low_at fits) n.0.1) _ (s, ys) n.2 in
    let d = then_some (part_at (codes "drops ") (rest_at drops_at fits) l.0.1) _ (s, ys) l.2 in
    let m = then_some (part_at (codes "mods ") (rest_at (listed_at names_at) fit_mods) d.0.1) _ (s, ys) d.2 in
    let e = with_some (summary_of n.0.0 l.0.0 d.0.0 m.0.0) (exits_at m.0.1) s ys m.2 in
    let a = part-is (rest_of (listed term_text)) (λ ts. Each IsTerm ts × (fit_terms ts ≡ true)) Anything (rest_at (listed_at term_at) fit_terms) need-rest (codes "need ") n.0.0 xs n.0.1 n.1 in
    let b = part-is (rest_of low_text) (λ z. IsLow z × (fits z ≡ true)) Anything (rest_at low_at fits) low-rest (codes "low ") l.0.0 n.0.1 l.0.1 l.1 in
    let c = part-is (rest_of drops_text) (λ z. IsDrops z × (fits z ≡ true)) Anything (rest_at drops_at fits) drops-rest (codes "drops ") d.0.0 l.0.1 d.0.1 d.1 in
    let f = part-is (rest_of (listed names_text)) (λ ms. Each HasNames ms × (fit_mods ms ≡ true)) Anything (rest_at (listed_at names_at) fit_mods) mods-rest (codes "mods ") m.0.0 d.0.1 m.0.1 m.1 in
    let g = exits-is e.0 m.0.1 ys e.1 in
    let few = few-exits e.0 g.1.1 in
    let made = summary_of n.0.0 l.0.0 d.0.0 m.0.0 e.0 in
    let P : Summary → Type 0 = λ z. (xs ≡ summary_text z ++ ys) × IsSummary z in
    subst P (sym e.2) (
      a.0 ∙ ap (λ z. codes "need " ++ (rest_of (listed term_text) n.0.0 ++ z)) (b.0 ∙ ap (λ z. codes "low " ++ (rest_of low_text l.0.0 ++ z)) (c.0 ∙ ap (λ z. codes "drops " ++ (rest_of drops_text d.0.0 ++ z)) (f.0 ∙ ap (λ z. codes "mods " ++ (rest_of (listed names_text) m.0.0 ++ z)) g.0)))
          ∙ sym (summary-parts made ys),
      record { need = terms-good n.0.0 a.1.0 a.1.1; low = b.1.0; mods = mods-good m.0.0 f.1.0 f.1.1; each_exit = exits-good e.0 g.1.0; few_exits = few.0; exit_order = few.1 },
    )

summary-back : (s : Summary) (ys : List ℕ) → IsSummary s → NoExit ys → summary_at (summary_text s ++ ys) ≡ Some (s, ys)
unfolding summary_at
summary-back s ys is none =
    let mods = mods-has s.mods is.mods in
    rw (summary-parts s ys)
    (rw (part-back (rest_of (listed term_text)) (λ ts. Each IsTerm ts × (fit_terms ts ≡ true)) Anything (rest_at (listed_at term_at) fit_terms) need-rest (codes "need ") s.need _ (is.need.each, terms-fit s.need is.need) tt)
    (rw (part-back (rest_of low_text) (λ z. IsLow z × (fits z ≡ true)) Anything (rest_at low_at fits) low-rest (codes "low ") s.low _ (is.low, refl) tt)
    (rw (part-back (rest_of drops_text) (λ z. IsDrops z × (fits z ≡ true)) Anything (rest_at drops_at fits) drops-rest (codes "drops ") s.drops _ (tt, refl) tt)
    (rw (part-back (rest_of (listed names_text)) (λ ms. Each HasNames ms × (fit_mods ms ≡ true)) Anything (rest_at (listed_at names_at) fit_mods) mods-rest (codes "mods ") s.mods _ mods tt)
    (rw (exits-back s.exits ys (exits-has s.exits is.each_exit, exits-fit s.exits is.few_exits is.exit_order) none) refl)))))

pub summary-format : Format summary_text IsSummary NoExit summary_at
summary-format = record { sound = summary-is; complete = summary-back }

-- points
pub place-is : (p : ℕ × ℕ) (xs ys : List ℕ) → place_at xs ≡ Some (p, ys) → (xs ≡ place_text p.0 p.1 ++ ys) × (1 ≤ p.0) × (p.0 ≤ 65535) × (p.1 ≤ 255)
unfolding place_at
place-is p xs ys h =
    let l = then_some (number_at 65535 xs >>= positive) _ (p, ys) h in
    let n = then_some (number_at 65535 xs) positive l.0 l.1 in
    let pos = positive-is n.0 l.0.0 l.0.1 n.2 in
    let d = then_some (byte_at 46 l.0.1) _ (p, ys) l.2 in
    let r = with_some _ (number_at 255 d.0.1) p ys d.2 in
    let a = (number-format 65535 (lit< tt)).sound l.0.0 xs l.0.1 (n.1 ∙ ap (λ z. Some z) pos.0) in
    let b = (number-format 255 (lit< tt)).sound r.0 d.0.1 ys r.1 in
    let P : ℕ × ℕ → Type 0 = λ z. (xs ≡ place_text z.0 z.1 ++ ys) × (1 ≤ z.0) × (z.0 ≤ 65535) × (z.1 ≤ 255) in
    subst P (sym r.2) (
      a.0 ∙ ap (λ z. decimal l.0.0 ++ z) ((byte-is 46 d.0.0 l.0.1 d.0.1 d.1).0 ∙ ap (λ z. 46 ∷ z) b.0) ∙ sym (append_assoc (decimal l.0.0) (46 ∷ decimal r.0) ys),
      pos.1,
      a.1,
      b.1,
    )

pub place-back : (p : ℕ × ℕ) (ys : List ℕ) → 1 ≤ p.0 → p.0 ≤ 65535 → p.1 ≤ 255 → digits ys ≡ 0 → place_at (place_text p.0 p.1 ++ ys) ≡ Some (p, ys)
unfolding place_at
place-back p ys from to round none =
    rw (append_assoc (decimal p.0) (46 ∷ decimal p.1) ys)
    (rw ((number-format 65535 (lit< tt)).complete p.0 (46 ∷ (decimal p.1 ++ ys)) to refl)
    (rw (not-zero p.0 from) (rw ((number-format 255 (lit< tt)).complete p.1 ys round none) refl)))

abbrev pub HasListed : Listed → Type 0
HasListed l = (1 ≤ l.0) × (l.0 ≤ 65535) × (l.1 ≤ 255) × HasCase l.2

listed-is : (l : Listed) (xs ys : List ℕ) → listed_case_at xs ≡ Some (l, ys) → (xs ≡ listed_text l ++ ys) × HasListed l
unfolding listed_case_at
listed-is l xs ys h =
    let p = then_some (place_at xs) _ (l, ys) h in
    let s = then_some (byte_at 32 p.0.1) _ (l, ys) p.2 in
    let c = with_some (listed_of p.0.0) (case_at s.0.1) l ys s.2 in
    let a = place-is p.0.0 xs p.0.1 p.1 in
    let b = case-format.sound c.0 s.0.1 ys c.1 in
    let P : Listed → Type 0 = λ z. (xs ≡ listed_text z ++ ys) × HasListed z in
    subst P (sym c.2) (
      a.0 ∙ ap (λ z. place_text p.0.0.0 p.0.0.1 ++ z) ((byte-is 32 s.0.0 p.0.1 s.0.1 s.1).0 ∙ ap (λ z. 32 ∷ z) b.0) ∙ sym (append_assoc (place_text p.0.0.0 p.0.0.1) (32 ∷ case_text c.0) ys),
      (a.1, a.2, a.3, b.1),
    )

listed-back : (l : Listed) (ys : List ℕ) → HasListed l → NoSign ys → listed_case_at (listed_text l ++ ys) ≡ Some (l, ys)
unfolding listed_case_at
listed-back l ys (from, to, round, is) none =
    rw (append_assoc (place_text l.0 l.1) (32 ∷ case_text l.2) ys)
    (rw (place-back (l.0, l.1) (32 ∷ (case_text l.2 ++ ys)) from to round refl) (rw (case-format.complete l.2 ys is none) refl))

pub listed-case-format : Format listed_text HasListed NoSign listed_case_at
listed-case-format = record { sound = listed-is; complete = listed-back }

pub listed-rest : Format (λ l. listed_text l ++ 10 ∷ []) GoodListed Anything (rest_at listed_case_at fits_listed)
listed-rest = rest-format listed_text HasListed NoSign listed_case_at listed-case-format fits_listed (λ n. refl)

pub record ArePoints (points : List Point) : Type 0 where
  pub each : Each IsPoint points
  pub order : ascends points_below points ≡ true

abbrev pub NoPoint : List ℕ → Type 0
NoPoint ys = word_at (codes "at ") ys ≡ None

points-is : (ps : List Point) (xs ys : List ℕ) → points_at xs ≡ Some (ps, ys) → (xs ≡ flat point_text ps ++ ys) × ArePoints ps
unfolding points_at
points-is ps xs ys h =
    let w = then_some (with (grouped []) (worded_at (codes "at ") (rest_at listed_case_at fits_listed) xs)) (fit fit_points) (ps, ys) h in
    let t = fit-is fit_points w.0 (ps, ys) w.2 in
    let g = with_some (grouped []) (worded_at (codes "at ") (rest_at listed_case_at fits_listed) xs) ps ys (w.1 ∙ ap (λ z. Some z) t.0) in
    let s = worded-is (λ l. listed_text l ++ 10 ∷ []) GoodListed Anything (rest_at listed_case_at fits_listed) listed-rest (codes "at ") g.0 xs ys g.1 in
    let lines : lines_of ps ≡ g.0 = ap lines_of g.2 ∙ grouped-lines [] g.0 in
    let u = both_true _ (ascends points_below ps) t.1 in
    let has : Each HasCases ps = subst (λ z. Each HasCases z) (sym g.2) (grouped-cases [] g.0 tt) in
    let good : Each GoodListed (lines_of ps) = subst (λ z. Each GoodListed z) (sym lines) s.1 in (
      s.0 ∙ ap (λ z. flat listed_line z ++ ys) (sym lines) ∙ ap (λ z. z ++ ys) (points-text ps),
      record { each = points-good ps good has u.0; order = u.1 },
    )

points-back : (ps : List Point) (ys : List ℕ) → ArePoints ps → NoPoint ys → points_at (flat point_text ps ++ ys) ≡ Some (ps, ys)
unfolding points_at
points-back ps ys is none =
    let has = points-has ps is.each in
    let back = grouped-back ps has.1 is.order in
    let fitting : fit_points ps ≡ true = both_back _ _ has.2 is.order in
    rw (sym (ap (λ z. z ++ ys) (points-text ps)))
    (rw (worded-back (λ l. listed_text l ++ 10 ∷ []) GoodListed Anything (rest_at listed_case_at fits_listed) listed-rest (codes "at ") (omega arith) (λ _. tt) (lines_of ps) ys has.0 tt none)
    (rw back (rw fitting refl)))

pub points-format : Format (flat point_text) ArePoints NoPoint points_at
points-format = record { sound = points-is; complete = points-back }

-- blocks
entry-rest : Format (rest_of entry_text) (λ e. IsEntryText e × (fits e ≡ true)) Anything (rest_at entry_at fits)
entry-rest = rest-format entry_text IsEntryText NoName entry_at entry-format fits (λ n. refl)

-- what ends a block
abbrev pub EndsBlock : List ℕ → Type 0
EndsBlock ys = NoExit ys × NoPoint ys

at-no-exit : (m : List ℕ) → NoExit (codes "at " ++ m)
unfolding word_at
at-no-exit m = refl

-- lines of points are not lines of exits
pub lines-no-exit : {A : Type 0} (text : A → List ℕ) (items : List A) (ys : List ℕ) → NoExit ys → NoExit (flat (λ a. codes "at " ++ text a) items ++ ys)
lines-no-exit text [] ys none = none
lines-no-exit text (a ∷ items) ys none = at-no-exit _

pub points-no-exit : (ps : List Point) (ys : List ℕ) → ArePoints ps → NoExit ys → NoExit (flat point_text ps ++ ys)
points-no-exit ps ys is none = ap (λ z. word_at (codes "exit ") (z ++ ys)) (sym (points-text ps)) ∙ lines-no-exit (λ l. listed_text l ++ 10 ∷ []) (lines_of ps) ys none

-- a block with such points
pub record IsBlockWith (Is : List Point → Type 0) (b : EntryCert) : Type 0 where
  pub entry : IsEntryText b.entry
  pub summary : IsSummary b.summary
  pub points : Is b.points

-- a block without its word
abbrev pub body_text : (Point → List ℕ) → EntryCert → List ℕ
body_text point b = rest_of entry_text b.entry ++ (summary_text b.summary ++ flat point b.points)

module _ (point : Point → List ℕ) (Is : List Point → Type 0) (points : ReadsPoints) (f : Format (flat point) Is NoPoint points) where
  block-parts : (b : EntryCert) (ys : List ℕ) → body_text point b ++ ys ≡ rest_of entry_text b.entry ++ (summary_text b.summary ++ (flat point b.points ++ ys))
  block-parts b ys = append_assoc (rest_of entry_text b.entry) (summary_text b.summary ++ flat point b.points) ys ∙ ap (λ z. rest_of entry_text b.entry ++ z) (append_assoc (summary_text b.summary) (flat point b.points) ys)

  block-is : (b : EntryCert) (xs ys : List ℕ) → block_at points xs ≡ Some (b, ys) → (xs ≡ body_text point b ++ ys) × IsBlockWith Is b
  unfolding block_at
  block-is b xs ys h =
      let e = then_some (rest_at entry_at fits xs) _ (b, ys) h in
      let s = then_some (summary_at e.0.1) _ (b, ys) e.2 in
      let p = with_some (block_of e.0.0 s.0.0) (points s.0.1) b ys s.2 in
      let a = entry-rest.sound e.0.0 xs e.0.1 e.1 in
      let c = summary-is s.0.0 e.0.1 s.0.1 s.1 in
      let d = f.sound p.0 s.0.1 ys p.1 in
      let made = block_of e.0.0 s.0.0 p.0 in
      let P : EntryCert → Type 0 = λ z. (xs ≡ body_text point z ++ ys) × IsBlockWith Is z in
      subst P (sym p.2) (
        a.0 ∙ ap (λ z. rest_of entry_text e.0.0 ++ z) (c.0 ∙ ap (λ z. summary_text s.0.0 ++ z) d.0) ∙ sym (block-parts made ys),
        record { entry = a.1.0; summary = c.1; points = d.1 },
      )

  module _ (apart : (ps : List Point) (ys : List ℕ) → Is ps → NoExit ys → NoExit (flat point ps ++ ys)) where
    block-back : (b : EntryCert) (ys : List ℕ) → IsBlockWith Is b → EndsBlock ys → block_at points (body_text point b ++ ys) ≡ Some (b, ys)
    unfolding block_at
    block-back b ys is ends =
        rw (block-parts b ys)
        (rw (entry-rest.complete b.entry (summary_text b.summary ++ (flat point b.points ++ ys)) (is.entry, refl) tt)
        (rw (summary-back b.summary (flat point b.points ++ ys) is.summary (apart b.points ys is.points ends.0))
        (rw (f.complete b.points ys is.points ends.1) refl)))

    pub block-format : Format (body_text point) (IsBlockWith Is) EndsBlock (block_at points)
    block-format = record { sound = block-is; complete = block-back }

-- reading points leaves no more bytes than before
abbrev pub Shortens : ReadsPoints → Type 0
Shortens points = (ps : List Point) (xs ys : List ℕ) → points xs ≡ Some (ps, ys) → length ys ≤ length xs

pub block-room : (points : ReadsPoints) → Shortens points → (b : EntryCert) (xs ys : List ℕ) → block_at points xs ≡ Some (b, ys) → length ys ≤ length xs
unfolding block_at
block-room points room b xs ys h =
    let e = then_some (rest_at entry_at fits xs) _ (b, ys) h in
    let s = then_some (summary_at e.0.1) _ (b, ys) e.2 in
    let p = with_some (block_of e.0.0 s.0.0) (points s.0.1) b ys s.2 in
    let a = no-longer (rest_of entry_text e.0.0) xs e.0.1 (entry-rest.sound e.0.0 xs e.0.1 e.1).0 in
    let c = no-longer (summary_text s.0.0) e.0.1 s.0.1 (summary-is s.0.0 e.0.1 s.0.1 s.1).0 in
    let d = room p.0 s.0.1 ys p.1 in
    omega arith
