-- What is read and passes its tests is within the limits, and what is within them passes.
use Rattle.std.proofs.Common.{◌≡◌, ◌≤◌, ℕ, ◌++◌, List, [], ◌∷◌, length, map, Bool, true, false, not, refl, sym, ◌∙◌, arith}
use Rattle.std.specs.Prelude.{◌&&◌, ◌||◌, nat_le, bytes_eq}
use Rattle.std.proofs.lemmas.Bool.{leb-true, le-leb, not-true}
use Rattle.std.proofs.lemmas.Slice.Eq.{bytes_eq-Decides}
use Rattle.mlk_names.specs.declared.term.LockTerm.{LockTerm}
use Rattle.mlk_cert_parts.specs.declared.case.Case.{Case}
use Rattle.mlk_cert_parts.specs.declared.case.ExitCase.{ExitCase}
use Rattle.mlk_cert_parts.specs.declared.names.NameSet.{NameSet}
use Rattle.mlk_cert_parts.specs.declared.names.NameSet.TheVariants.{Only, AllBut}
use Rattle.mlk_cert_parts.specs.declared.names.Own.{Own}
use Rattle.mlk_cert_parts.specs.declared.block.Point.{Point}
use Rattle.mlk_cert_lexemes.specs.Lists.{Each, ascends, below}
use Rattle.mlk_cert_lexemes.specs.Kinds.{ReadsAsName, IsTerm, terms_upto}
use Rattle.mlk_cert_parts.specs.Limits.{IsNameSet, IsOwn, AreTerms, AreMods, AreOwn, AreKept, IsCase, IsExit, IsPoint, TextsDiffer, names_below, own_below, exits_below, cases_below}
use Rattle.mlk_cert_parts.specs.Checks.{ascends_inside, ascend_inside, ascend_inside_own, fit_terms, fit_mods, fit_own, fit_kept, fits_case, fits_exit, fit_exits, fit_cases, each_fits, has_text, are_distinct}
use Rattle.mlk_cert.specs.Blocks.{Listed}
use Rattle.mlk_cert_parts.proofs.CaseFormats.{HasNames, HasOwn, HasCase, HasExit}
use Rattle.mlk_cert_lexemes.proofs.Formats.{both_true, both_back}
use Rattle.mlk_cert.proofs.Grouping.{listed_at_place, cases_of, lines_of, HasCases}

pub terms-good : (ts : List LockTerm) → Each IsTerm ts → fit_terms ts ≡ true → AreTerms ts
terms-good ts is h = let t = both_true (nat_le (length ts) 16) (ascends terms_upto ts) h in record { each = is; few = leb-true _ _ t.0; order = t.1 }

pub terms-fit : (ts : List LockTerm) → AreTerms ts → fit_terms ts ≡ true
terms-fit ts a = both_back _ _ (le-leb _ _ a.few) a.order

set-good : (n : NameSet) → HasNames n → ascends_inside n ≡ true → IsNameSet n
set-good (Only name) is h = is
set-good (AllBut names) is h = (is, h)

set-has : (n : NameSet) → IsNameSet n → HasNames n × (ascends_inside n ≡ true)
set-has (Only name) is = (is, refl)
set-has (AllBut names) is = is

sets-good : (ms : List NameSet) → Each HasNames ms → ascend_inside ms ≡ true → Each IsNameSet ms
sets-good [] is h = tt
sets-good (m ∷ ms) is h = let t = both_true (ascends_inside m) (ascend_inside ms) h in (set-good m is.0 t.0, sets-good ms is.1 t.1)

sets-has : (ms : List NameSet) → Each IsNameSet ms → Each HasNames ms × (ascend_inside ms ≡ true)
sets-has [] is = (tt, refl)
sets-has (m ∷ ms) is = let one = set-has m is.0 in let rest = sets-has ms is.1 in ((one.0, rest.0), both_back _ _ one.1 rest.1)

pub mods-good : (ms : List NameSet) → Each HasNames ms → fit_mods ms ≡ true → AreMods ms
mods-good ms is h =
    let t = both_true (nat_le (length ms) 1024) (ascend_inside ms && ascends names_below ms) h in
    let u = both_true (ascend_inside ms) (ascends names_below ms) t.1 in
    record { each = sets-good ms is u.0; few = leb-true _ _ t.0; order = u.1 }

pub mods-has : (ms : List NameSet) → AreMods ms → Each HasNames ms × (fit_mods ms ≡ true)
mods-has ms a = let s = sets-has ms a.each in (s.0, both_back _ _ (le-leb _ _ a.few) (both_back _ _ s.1 a.order))

owns-good : (os : List Own) → Each HasOwn os → ascend_inside_own os ≡ true → Each IsOwn os
owns-good [] is h = tt
owns-good (o ∷ os) is h =
    let t = both_true (ascends_inside o.names) (ascend_inside_own os) h in
    ((is.0.0, is.0.1, set-good o.names is.0.2 t.0), owns-good os is.1 t.1)

owns-has : (os : List Own) → Each IsOwn os → Each HasOwn os × (ascend_inside_own os ≡ true)
owns-has [] is = (tt, refl)
owns-has (o ∷ os) is =
    let one = set-has o.names is.0.2 in
    let rest = owns-has os is.1 in (((is.0.0, is.0.1, one.0), rest.0), both_back _ _ one.1 rest.1)

own-good : (os : List Own) → Each HasOwn os → fit_own os ≡ true → AreOwn os
own-good os is h =
    let t = both_true (nat_le (length os) 64) (ascend_inside_own os && ascends own_below os) h in
    let u = both_true (ascend_inside_own os) (ascends own_below os) t.1 in
    record { each = owns-good os is u.0; few = leb-true _ _ t.0; order = u.1 }

own-has : (os : List Own) → AreOwn os → Each HasOwn os × (fit_own os ≡ true)
own-has os a = let s = owns-has os a.each in (s.0, both_back _ _ (le-leb _ _ a.few) (both_back _ _ s.1 a.order))

kept-good : (ns : List (List ℕ)) → Each ReadsAsName ns → fit_kept ns ≡ true → AreKept ns
kept-good ns is h = let t = both_true (nat_le (length ns) 64) (ascends below ns) h in record { each = is; few = leb-true _ _ t.0; order = t.1 }

kept-fit : (ns : List (List ℕ)) → AreKept ns → fit_kept ns ≡ true
kept-fit ns a = both_back _ _ (le-leb _ _ a.few) a.order

pub case-good : (c : Case) → HasCase c → fits_case c ≡ true → IsCase c
case-good c is h =
    let t = both_true (fit_terms c.held) (fit_own c.own && fit_kept c.kept) h in
    let u = both_true (fit_own c.own) (fit_kept c.kept) t.1 in
    record { held = terms-good c.held is.held t.0; own = own-good c.own is.own u.0; kept = kept-good c.kept is.kept u.1 }

pub case-has : (c : Case) → IsCase c → HasCase c × (fits_case c ≡ true)
case-has c a =
    let o = own-has c.own a.own in
    (record { held = a.held.each; own = o.0; kept = a.kept.each }, both_back _ _ (terms-fit c.held a.held) (both_back _ _ o.1 (kept-fit c.kept a.kept)))

exit-good : (e : ExitCase) → HasExit e → fits_exit e ≡ true → IsExit e
exit-good e is h = let t = both_true (fit_terms e.held) (fit_kept e.kept) h in record { held = terms-good e.held is.held t.0; kept = kept-good e.kept is.kept t.1 }

exit-has : (e : ExitCase) → IsExit e → HasExit e × (fits_exit e ≡ true)
exit-has e a = (record { held = a.held.each; kept = a.kept.each }, both_back _ _ (terms-fit e.held a.held) (kept-fit e.kept a.kept))

-- exits whose parts were read and that pass their tests
abbrev pub GoodExit : ExitCase → Type 0
GoodExit e = HasExit e × (fits_exit e ≡ true)

pub exits-good : (es : List ExitCase) → Each GoodExit es → Each IsExit es
exits-good [] is = tt
exits-good (e ∷ es) is = (exit-good e is.0.0 is.0.1, exits-good es is.1)

pub exits-has : (es : List ExitCase) → Each IsExit es → Each GoodExit es
exits-has [] is = tt
exits-has (e ∷ es) is = (exit-has e is.0, exits-has es is.1)

pub few-exits : (es : List ExitCase) → fit_exits es ≡ true → (length es ≤ 16) × (ascends exits_below es ≡ true)
few-exits es h = let t = both_true (nat_le (length es) 16) (ascends exits_below es) h in (leb-true _ _ t.0, t.1)

pub exits-fit : (es : List ExitCase) → length es ≤ 16 → ascends exits_below es ≡ true → fit_exits es ≡ true
exits-fit es few order = both_back _ _ (le-leb _ _ few) order

-- lines of cases
abbrev pub GoodListed : Listed → Type 0
GoodListed l = ((1 ≤ l.0) × (l.0 ≤ 65535) × (l.1 ≤ 255) × HasCase l.2) × (fits_case l.2 ≡ true)

pub each-front : {A : Type 0} (Is : A → Type 0) (xs ys : List A) → Each Is (xs ++ ys) → Each Is xs × Each Is ys
each-front Is [] ys is = (tt, is)
each-front Is (x ∷ xs) ys is = let r = each-front Is xs ys is.1 in ((is.0, r.0), r.1)

pub each-join : {A : Type 0} (Is : A → Type 0) (xs ys : List A) → Each Is xs → Each Is ys → Each Is (xs ++ ys)
each-join Is [] ys is js = js
each-join Is (x ∷ xs) ys is js = (is.0, each-join Is xs ys is.1 js)

cases-good : (p : Point) (cs : List Case) → Each GoodListed (map (listed_at_place p) cs) → Each IsCase cs
cases-good p [] is = tt
cases-good p (c ∷ cs) is = (case-good c is.0.0.3 is.0.1, cases-good p cs is.1)

place-good : (p : Point) (cs : List Case) → 1 ≤ length cs → Each GoodListed (map (listed_at_place p) cs) → (1 ≤ p.line) × (p.line ≤ 65535) × (p.round ≤ 255)
place-good p [] some is = absurd (omega arith)
place-good p (c ∷ cs) some is = (is.0.0.0, is.0.0.1, is.0.0.2)

pub points-good : (ps : List Point) → Each GoodListed (lines_of ps) → Each HasCases ps → each_fits ps ≡ true → Each IsPoint ps
points-good [] is has h = tt
points-good (p ∷ ps) is has h =
    let t = both_true (fit_cases p.cases) (each_fits ps) h in
    let u = both_true (nat_le (length p.cases) 16) (ascends cases_below p.cases) t.0 in
    let r = each-front GoodListed (cases_of p) (lines_of ps) is in
    let here = place-good p p.cases has.0 r.0 in (
      record { from_one = here.0; line = here.1; round = here.2; each = cases-good p p.cases r.0; some_case = has.0; few = leb-true _ _ u.0; order = u.1 },
      points-good ps r.1 has.1 t.1,
    )

cases-has : (p : Point) (cs : List Case) → 1 ≤ p.line → p.line ≤ 65535 → p.round ≤ 255 → Each IsCase cs → Each GoodListed (map (listed_at_place p) cs)
cases-has p [] from to round is = tt
cases-has p (c ∷ cs) from to round is = let one = case-has c is.0 in (((from, to, round, one.0), one.1), cases-has p cs from to round is.1)

pub points-has : (ps : List Point) → Each IsPoint ps → Each GoodListed (lines_of ps) × Each HasCases ps × (each_fits ps ≡ true)
points-has [] is = (tt, tt, refl)
points-has (p ∷ ps) is =
    let rest = points-has ps is.1 in
    let a = is.0 in (
      each-join GoodListed (cases_of p) (lines_of ps) (cases-has p p.cases a.from_one a.line a.round a.each) rest.0,
      (a.some_case, rest.1),
      both_back _ _ (both_back _ _ (le-leb _ _ a.few) a.order) rest.2,
    )

-- no text twice
or_false : (a b : Bool) → (a || b) ≡ false → (a ≡ false) × (b ≡ false)
or_false true b h = cc h
or_false false b h = (refl, h)

or_back : (a b : Bool) → a ≡ false → b ≡ false → (a || b) ≡ false
or_back a b e f = rw e f

true_not : (b : Bool) → b ≡ false → not b ≡ true
true_not b e = rw e refl

apart-good : (text : List ℕ) (texts : List (List ℕ)) → has_text texts text ≡ false → Each (λ u. u ≡ text → ⊥) texts
apart-good text [] h = tt
apart-good text (u ∷ texts) h =
    let t = or_false (bytes_eq text u) (has_text texts text) h in
    ((λ e. let same : bytes_eq text u ≡ true = (bytes_eq-Decides text u).1 (sym e) in cc (sym same ∙ t.0)), apart-good text texts t.1)

apart-back : (text : List ℕ) (texts : List (List ℕ)) → Each (λ u. u ≡ text → ⊥) texts → has_text texts text ≡ false
apart-back text [] is = refl
apart-back text (u ∷ texts) is = or_back _ _ (other (bytes_eq text u) refl) (apart-back text texts is.1)
  where
    other : (b : Bool) → bytes_eq text u ≡ b → b ≡ false
    other true e = absurd (is.0 (sym ((bytes_eq-Decides text u).0 e)))
    other false e = refl

pub distinct-good : (texts : List (List ℕ)) → are_distinct texts ≡ true → TextsDiffer texts
distinct-good [] h = tt
distinct-good (t ∷ texts) h =
    let b = both_true (not (has_text texts t)) (are_distinct texts) h in
    (apart-good t texts (not-true _ b.0), distinct-good texts b.1)

pub distinct-back : (texts : List (List ℕ)) → TextsDiffer texts → are_distinct texts ≡ true
distinct-back [] is = refl
distinct-back (t ∷ texts) is = both_back _ _ (true_not _ (apart-back t texts is.0)) (distinct-back texts is.1)
