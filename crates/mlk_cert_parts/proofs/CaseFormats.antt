-- Sets of names, signs, cases, and their readers.
use Rattle.std.proofs.Common.{◌≡◌, ◌<◌, ◌≤◌, ℕ, suc, ◌++◌, List, ◌∷◌, length, Some, None, refl, sym, ap, ◌∙◌, arith, subst, inl, inr, append_assoc, lit<, []}
use Rattle.std.specs.Prelude.{Option, ◌==◌, codes}
use Rattle.std.specs.Fmt.{decimal}
use Rattle.std.proofs.lemmas.Bool.{cases_Bool, eqb-true}
use Rattle.mlk_text.specs.Reading.{◌>>=◌, many}
use Rattle.mlk_text.specs.Lexemes.{byte_at, name_at}
use Rattle.mlk_text.proofs.Readers.{then_some, pair_parts, with_some}
use Rattle.mlk_cert_parts.specs.declared.case.Test.{Test}
use Rattle.mlk_cert_parts.specs.declared.case.Test.TheVariants.{Any, Zero, One}
use Rattle.mlk_cert_parts.specs.declared.case.Case.{Case}
use Rattle.mlk_cert_parts.specs.declared.case.ExitCase.{ExitCase}
use Rattle.mlk_cert_parts.specs.declared.names.NameSet.{NameSet}
use Rattle.mlk_cert_parts.specs.declared.names.NameSet.TheVariants.{Only, AllBut}
use Rattle.mlk_cert_parts.specs.declared.names.Own.{Own}
use Rattle.mlk_cert_lexemes.specs.Lists.{Each, flat, more}
use Rattle.mlk_cert_lexemes.specs.Texts.{listed, term_text, name_text}
use Rattle.mlk_cert_parts.specs.Texts.{names_text, own_text, sign, sign_text, saved_text, case_text, exit_text}
use Rattle.mlk_cert_lexemes.specs.Kinds.{ReadsAsName, IsTerm}
use Rattle.mlk_cert_lexemes.specs.Reading.{keep, list_at, listed_at, term_at, number_at, positive, part_at}
use Rattle.mlk_cert_parts.specs.Reading.{inside_by, names_by, names_at, own_of, own_at, sign_at, signs_by, saved_by, saved_at, exit_of, exit_at, case_of, case_at}
use Rattle.mlk_cert_lexemes.proofs.Formats.{Format, Anything, byte-is, flat-is, flat-back, list-is, list-back, listed-format, part-is, part-back}
use Rattle.mlk_cert_lexemes.proofs.NumberFormats.{number-format, decimal-no-dash, positive-is, not-zero}
use Rattle.mlk_cert_lexemes.proofs.NameFormats.{NoName, name-format, name-first}
use Rattle.mlk_cert_lexemes.proofs.TermFormats.{EndsTerms, EndsNames, terms-format, kept-format}

-- names that are spelled as names, in any order
abbrev pub HasNames : NameSet → Type 0
HasNames (Only name) = ReadsAsName name
HasNames (AllBut names) = Each ReadsAsName names

names-is : (n : NameSet) (xs ys : List ℕ) → names_at xs ≡ Some (n, ys) → (xs ≡ names_text n ++ ys) × HasNames n
unfolding names_at
names-is n xs ys h = go (byte_at 126 xs) refl h
  where
    inside : (m : List ℕ) → xs ≡ 126 ∷ 40 ∷ m → (o : Option (ℕ × List ℕ)) → byte_at 41 m ≡ o → inside_by m o ≡ Some (n, ys) → (xs ≡ names_text n ++ ys) × HasNames n
    inside m front (Some c) is h =
        let p = pair_parts (AllBut []) n c.1 ys h in
        let P : NameSet → Type 0 = λ z. (xs ≡ names_text z ++ ys) × HasNames z in
        subst P p.0 (front ∙ ap (λ l. 126 ∷ 40 ∷ l) ((byte-is 41 c.0 m c.1 is).0 ∙ ap (λ l. 41 ∷ l) p.1), tt)
    inside m front None is h =
        let l = then_some (list_at name_at 44 m) _ (n, ys) h in
        let c = with_some _ (byte_at 41 l.0.1) n ys l.2 in
        let r = list-is name_text ReadsAsName NoName name_at name-format 44 l.0.0 m l.0.1 l.1 in
        let assoc : ((r.0 ++ more 44 name_text r.1) ++ codes ")") ++ ys ≡ r.0 ++ (more 44 name_text r.1 ++ 41 ∷ ys)
        = append_assoc (r.0 ++ more 44 name_text r.1) (codes ")") ys ∙ append_assoc r.0 (more 44 name_text r.1) (41 ∷ ys) in
        let P : NameSet → Type 0 = λ z. xs ≡ names_text z ++ ys in (
          subst P (sym (c.2 ∙ ap AllBut r.2))
              (front ∙ ap (λ z. 126 ∷ 40 ∷ z) (r.3 ∙ ap (λ z. r.0 ++ (more 44 name_text r.1 ++ z)) (byte-is 41 c.0 l.0.1 ys c.1).0 ∙ sym assoc)),
          subst (λ z. HasNames z) (sym c.2) r.4,
        )

    go : (o : Option (ℕ × List ℕ)) → byte_at 126 xs ≡ o → names_by xs o ≡ Some (n, ys) → (xs ≡ names_text n ++ ys) × HasNames n
    go None is h =
        let r = with_some Only (name_at xs) n ys h in
        let P : NameSet → Type 0 = λ z. (xs ≡ names_text z ++ ys) × HasNames z in
        subst P (sym r.2) (name-format.sound r.0 xs ys r.1)
    go (Some t) is h =
        let p = then_some (byte_at 40 t.1) _ (n, ys) h in
        inside p.0.1 ((byte-is 126 t.0 xs t.1 is).0 ∙ ap (λ l. 126 ∷ l) (byte-is 40 p.0.0 t.1 p.0.1 p.1).0) (byte_at 41 p.0.1) refl p.2

names-back : (n : NameSet) (ys : List ℕ) → HasNames n → NoName ys → names_at (names_text n ++ ys) ≡ Some (n, ys)
unfolding names_at
names-back (Only name) ys is none = rw (name-first 126 name ys refl is) (rw (name-format.complete name ys is none) refl)
names-back (AllBut []) ys is none = refl
names-back (AllBut (n ∷ names)) ys (is, others) none =
    let assoc : ((n ++ more 44 name_text names) ++ codes ")") ++ ys ≡ n ++ (more 44 name_text names ++ 41 ∷ ys)
    = append_assoc (n ++ more 44 name_text names) (codes ")") ys ∙ append_assoc n (more 44 name_text names) (41 ∷ ys) in
    rw assoc
    (rw (name-first 41 n (more 44 name_text names ++ 41 ∷ ys) refl is)
    (rw (list-back name_text ReadsAsName NoName name_at name-format 44 (λ m. refl) n names (41 ∷ ys) is others refl refl) refl))

pub names-format : Format names_text HasNames NoName names_at
names-format = record { sound = names-is; complete = names-back }

names-first : (n : NameSet) (ys : List ℕ) → HasNames n → byte_at 45 (names_text n ++ ys) ≡ None
names-first (Only name) ys is = name-first 45 name ys refl is
names-first (AllBut names) ys is = refl

pub mods-format : Format (listed names_text) (Each HasNames) EndsNames (listed_at names_at)
mods-format = listed-format names_text HasNames NoName names_at names-format (λ n. refl) names-first

-- new names at a level in range, in any order
abbrev pub HasOwn : Own → Type 0
HasOwn o = (1 ≤ o.level) × (o.level ≤ 15) × HasNames o.names

own-is : (o : Own) (xs ys : List ℕ) → own_at xs ≡ Some (o, ys) → (xs ≡ own_text o ++ ys) × HasOwn o
unfolding own_at
own-is o xs ys h =
    let l = then_some (number_at 15 xs >>= positive) _ (o, ys) h in
    let n = then_some (number_at 15 xs) positive l.0 l.1 in
    let pos = positive-is n.0 l.0.0 l.0.1 n.2 in
    let c = then_some (byte_at 58 l.0.1) _ (o, ys) l.2 in
    let s = with_some (own_of l.0.0) (names_at c.0.1) o ys c.2 in
    let one = (number-format 15 (lit< tt)).sound l.0.0 xs l.0.1 (n.1 ∙ ap (λ z. Some z) pos.0) in
    let two = names-is s.0 c.0.1 ys s.1 in
    let P : Own → Type 0 = λ z. (xs ≡ own_text z ++ ys) × HasOwn z in
    subst P (sym s.2) (
      one.0 ∙ ap (λ z. decimal l.0.0 ++ z) ((byte-is 58 c.0.0 l.0.1 c.0.1 c.1).0 ∙ ap (λ z. 58 ∷ z) two.0) ∙ sym (append_assoc (decimal l.0.0) (58 ∷ names_text s.0) ys),
      (pos.1, one.1, two.1),
    )

own-back : (o : Own) (ys : List ℕ) → HasOwn o → NoName ys → own_at (own_text o ++ ys) ≡ Some (o, ys)
unfolding own_at
own-back o ys (low, high, is) none =
    rw (append_assoc (decimal o.level) (58 ∷ names_text o.names) ys)
    (rw ((number-format 15 (lit< tt)).complete o.level (58 ∷ (names_text o.names ++ ys)) high refl)
    (rw (not-zero o.level low) (rw (names-back o.names ys is none) refl)))

pub own-format : Format own_text HasOwn NoName own_at
own-format = record { sound = own-is; complete = own-back }

own-first : (o : Own) (ys : List ℕ) → HasOwn o → byte_at 45 (own_text o ++ ys) ≡ None
own-first o ys (low, high, is) =
    let small : o.level < 64 = omega arith in
    ap (byte_at 45) (append_assoc (decimal o.level) (58 ∷ names_text o.names) ys) ∙ decimal-no-dash o.level (58 ∷ (names_text o.names ++ ys)) (omega arith) refl

pub owns-format : Format (listed own_text) (Each HasOwn) EndsNames (listed_at own_at)
owns-format = listed-format own_text HasOwn NoName own_at own-format (λ n. refl) own-first

-- signs
abbrev pub IsSign : Test → Type 0
IsSign t = Unit {0}

sign-is : (t : Test) (xs ys : List ℕ) → sign_at xs ≡ Some (t, ys) → (xs ≡ sign_text t ++ ys) × IsSign t
sign-is t [] ys h = cc h
sign-is t (b ∷ xs) ys h = elim (cases_Bool (b == 42)) [
  | inl e ↦ one Any (eqb-true b 42 e) (rw e at h)
  | inr e ↦ elim (cases_Bool (b == 48)) [
    | inl f ↦ one Zero (eqb-true b 48 f) (rw (e, f) at h)
    | inr f ↦ elim (cases_Bool (b == 49)) [
      | inl g ↦ one One (eqb-true b 49 g) (rw (e, f, g) at h)
      | inr g ↦ cc (rw (e, f, g) at h)
    ]
  ]
]
  where
    one : (u : Test) → b ≡ sign u → ◌≡◌ {A = Option (Test × List ℕ)} (Some (u, xs)) (Some (t, ys)) → (b ∷ xs ≡ sign_text t ++ ys) × IsSign t
    one u is k =
        let p = pair_parts u t xs ys k in
        (ap (λ v. v ∷ xs) is ∙ ap (λ v. sign v ∷ xs) p.0 ∙ ap (λ l. sign t ∷ l) p.1, tt)

sign-back : (t : Test) (ys : List ℕ) → IsSign t → Anything ys → sign_at (sign_text t ++ ys) ≡ Some (t, ys)
sign-back Any ys is any = refl
sign-back Zero ys is any = refl
sign-back One ys is any = refl

pub sign-format : Format sign_text IsSign Anything sign_at
sign-format = record { sound = sign-is; complete = sign-back }

sign-room : (t : Test) → 0 < length (sign_text t)
sign-room t = omega arith

-- no sign follows
abbrev pub NoSign : List ℕ → Type 0
NoSign ys = sign_at ys ≡ None

are-signs : (tests : List Test) → Each IsSign tests
are-signs [] = tt
are-signs (t ∷ tests) = (tt, are-signs tests)

saved-is : (tests : List Test) (xs ys : List ℕ) → saved_at xs ≡ Some (tests, ys) → (xs ≡ saved_text tests ++ ys) × Each IsSign tests
unfolding saved_at
saved-is tests xs ys h = (go (byte_at 45 xs) refl h, are-signs tests)
  where
    some : (o : Option (Test × List ℕ)) → sign_at xs ≡ o → signs_by xs o ≡ Some (tests, ys) → xs ≡ saved_text tests ++ ys
    some None is h = cc h
    some (Some f) is h =
        let r = with_some _ (many sign_at keep (suc (length f.1)) f.1) tests ys h in
        let one = sign-is f.0 xs f.1 is in
        let rest = flat-is sign_text IsSign Anything sign_at sign-format _ r.0 f.1 ys r.1 in
        let P : List Test → Type 0 = λ l. xs ≡ saved_text l ++ ys in
        subst P (sym r.2) (one.0 ∙ ap (λ l. sign f.0 ∷ l) rest.0)

    go : (o : Option (ℕ × List ℕ)) → byte_at 45 xs ≡ o → saved_by xs o ≡ Some (tests, ys) → xs ≡ saved_text tests ++ ys
    go (Some d) is h =
        let p = pair_parts [] tests d.1 ys h in
        let P : List Test → Type 0 = λ l. xs ≡ saved_text l ++ ys in
        subst P p.0 ((byte-is 45 d.0 xs d.1 is).0 ∙ ap (λ l. 45 ∷ l) p.1)
    go None is h = some (sign_at xs) refl h

sign-no-dash : (t : Test) (ys : List ℕ) → byte_at 45 (sign t ∷ ys) ≡ None
sign-no-dash Any ys = refl
sign-no-dash Zero ys = refl
sign-no-dash One ys = refl

saved-back : (tests : List Test) (ys : List ℕ) → Each IsSign tests → NoSign ys → saved_at (saved_text tests ++ ys) ≡ Some (tests, ys)
unfolding saved_at
saved-back [] ys is none = refl
saved-back (t ∷ tests) ys is none =
    rw (sign-no-dash t (flat sign_text tests ++ ys))
    (rw (sign-back t (flat sign_text tests ++ ys) tt tt)
    (rw (flat-back sign_text IsSign Anything sign_at sign-format sign-room (λ _. tt) (suc (length (flat sign_text tests ++ ys))) tests ys is.1 none (omega arith)) refl))

pub saved-format : Format saved_text (Each IsSign) NoSign saved_at
saved-format = record { sound = saved-is; complete = saved-back }

-- a case with such parts, in any order
pub record HasCase (c : Case) : Type 0 where
  pub held : Each IsTerm c.held
  pub own : Each HasOwn c.own
  pub kept : Each ReadsAsName c.kept

pub record HasExit (e : ExitCase) : Type 0 where
  pub held : Each IsTerm e.held
  pub kept : Each ReadsAsName e.kept

-- a text of parts, before what follows
exit-parts : (e : ExitCase) (ys : List ℕ) → exit_text e ++ ys ≡ codes "T=" ++ (sign_text e.test ++ (codes " H=" ++ (listed term_text e.held ++ (codes " K=" ++ (listed name_text e.kept ++ ys)))))
exit-parts e ys = simp append_assoc

case-parts : (c : Case) (ys : List ℕ)
    → case_text c ++ ys ≡ codes "T=" ++ (sign_text c.test ++ (codes " H=" ++ (listed term_text c.held ++ (codes " O=" ++ (listed own_text c.own ++ (codes " K=" ++ (listed name_text c.kept ++ (codes " S=" ++ (saved_text c.saved ++ ys)))))))))
case-parts c ys = simp append_assoc

exit-is : (e : ExitCase) (xs ys : List ℕ) → exit_at xs ≡ Some (e, ys) → (xs ≡ exit_text e ++ ys) × HasExit e
unfolding exit_at
exit-is e xs ys h =
    let t = then_some (part_at (codes "T=") sign_at xs) _ (e, ys) h in
    let l = then_some (part_at (codes " H=") (listed_at term_at) t.0.1) _ (e, ys) t.2 in
    let k = with_some (exit_of t.0.0 l.0.0) (part_at (codes " K=") (listed_at name_at) l.0.1) e ys l.2 in
    let a = part-is sign_text IsSign Anything sign_at sign-format (codes "T=") t.0.0 xs t.0.1 t.1 in
    let b = part-is (listed term_text) (Each IsTerm) EndsTerms (listed_at term_at) terms-format (codes " H=") l.0.0 t.0.1 l.0.1 l.1 in
    let c = part-is (listed name_text) (Each ReadsAsName) EndsNames (listed_at name_at) kept-format (codes " K=") k.0 l.0.1 ys k.1 in
    let made = exit_of t.0.0 l.0.0 k.0 in
    let P : ExitCase → Type 0 = λ z. (xs ≡ exit_text z ++ ys) × HasExit z in
    subst P (sym k.2) (
      a.0 ∙ ap (λ z. codes "T=" ++ (sign_text t.0.0 ++ z)) (b.0 ∙ ap (λ z. codes " H=" ++ (listed term_text l.0.0 ++ z)) c.0) ∙ sym (exit-parts made ys),
      record { held = b.1; kept = c.1 },
    )

exit-back : (e : ExitCase) (ys : List ℕ) → HasExit e → EndsNames ys → exit_at (exit_text e ++ ys) ≡ Some (e, ys)
unfolding exit_at
exit-back e ys is ends =
    rw (exit-parts e ys)
    (rw (part-back sign_text IsSign Anything sign_at sign-format (codes "T=") e.test (codes " H=" ++ (listed term_text e.held ++ (codes " K=" ++ (listed name_text e.kept ++ ys)))) tt tt)
    (rw (part-back (listed term_text) (Each IsTerm) EndsTerms (listed_at term_at) terms-format (codes " H=") e.held (codes " K=" ++ (listed name_text e.kept ++ ys)) is.held ((refl, refl), refl))
    (rw (part-back (listed name_text) (Each ReadsAsName) EndsNames (listed_at name_at) kept-format (codes " K=") e.kept ys is.kept ends) refl)))

pub exit-format : Format exit_text HasExit EndsNames exit_at
exit-format = record { sound = exit-is; complete = exit-back }

case-is : (c : Case) (xs ys : List ℕ) → case_at xs ≡ Some (c, ys) → (xs ≡ case_text c ++ ys) × HasCase c
unfolding case_at
case-is c xs ys h =
    let t = then_some (part_at (codes "T=") sign_at xs) _ (c, ys) h in
    let l = then_some (part_at (codes " H=") (listed_at term_at) t.0.1) _ (c, ys) t.2 in
    let o = then_some (part_at (codes " O=") (listed_at own_at) l.0.1) _ (c, ys) l.2 in
    let k = then_some (part_at (codes " K=") (listed_at name_at) o.0.1) _ (c, ys) o.2 in
    let s = with_some (case_of t.0.0 l.0.0 o.0.0 k.0.0) (part_at (codes " S=") saved_at k.0.1) c ys k.2 in
    let a = part-is sign_text IsSign Anything sign_at sign-format (codes "T=") t.0.0 xs t.0.1 t.1 in
    let b = part-is (listed term_text) (Each IsTerm) EndsTerms (listed_at term_at) terms-format (codes " H=") l.0.0 t.0.1 l.0.1 l.1 in
    let d = part-is (listed own_text) (Each HasOwn) EndsNames (listed_at own_at) owns-format (codes " O=") o.0.0 l.0.1 o.0.1 o.1 in
    let e = part-is (listed name_text) (Each ReadsAsName) EndsNames (listed_at name_at) kept-format (codes " K=") k.0.0 o.0.1 k.0.1 k.1 in
    let f = part-is saved_text (Each IsSign) NoSign saved_at saved-format (codes " S=") s.0 k.0.1 ys s.1 in
    let made = case_of t.0.0 l.0.0 o.0.0 k.0.0 s.0 in
    let P : Case → Type 0 = λ z. (xs ≡ case_text z ++ ys) × HasCase z in
    subst P (sym s.2) (
      a.0 ∙ ap (λ z. codes "T=" ++ (sign_text t.0.0 ++ z)) (b.0 ∙ ap (λ z. codes " H=" ++ (listed term_text l.0.0 ++ z)) (d.0 ∙ ap (λ z. codes " O=" ++ (listed own_text o.0.0 ++ z)) (e.0 ∙ ap (λ z. codes " K=" ++ (listed name_text k.0.0 ++ z)) f.0)))
          ∙ sym (case-parts made ys),
      record { held = b.1; own = d.1; kept = e.1 },
    )

case-back : (c : Case) (ys : List ℕ) → HasCase c → NoSign ys → case_at (case_text c ++ ys) ≡ Some (c, ys)
unfolding case_at
case-back c ys is ends =
    rw (case-parts c ys)
    (rw (part-back sign_text IsSign Anything sign_at sign-format (codes "T=") c.test (codes " H=" ++ (listed term_text c.held ++ (codes " O=" ++ (listed own_text c.own ++ (codes " K=" ++ (listed name_text c.kept ++ (codes " S=" ++ (saved_text c.saved ++ ys)))))))) tt tt)
    (rw (part-back (listed term_text) (Each IsTerm) EndsTerms (listed_at term_at) terms-format (codes " H=") c.held (codes " O=" ++ (listed own_text c.own ++ (codes " K=" ++ (listed name_text c.kept ++ (codes " S=" ++ (saved_text c.saved ++ ys)))))) is.held ((refl, refl), refl))
    (rw (part-back (listed own_text) (Each HasOwn) EndsNames (listed_at own_at) owns-format (codes " O=") c.own (codes " K=" ++ (listed name_text c.kept ++ (codes " S=" ++ (saved_text c.saved ++ ys)))) is.own (refl, refl))
    (rw (part-back (listed name_text) (Each ReadsAsName) EndsNames (listed_at name_at) kept-format (codes " K=") c.kept (codes " S=" ++ (saved_text c.saved ++ ys)) is.kept (refl, refl))
    (rw (part-back saved_text (Each IsSign) NoSign saved_at saved-format (codes " S=") c.saved ys (are-signs c.saved) ends) refl)))))

pub case-format : Format case_text HasCase NoSign case_at
case-format = record { sound = case-is; complete = case-back }
