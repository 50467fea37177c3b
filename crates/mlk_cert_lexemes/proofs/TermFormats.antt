-- Constants, subscripts, terms, and their readers.
use Rattle.std.proofs.Common.{◌≡◌, ◌<◌, ◌+◌, ◌*◌, ◌/◌, ◌%◌, ℕ, suc, ◌++◌, List, ◌∷◌, length, Some, None, Bool, true, false, refl, sym, ap, ◌∙◌, arith, subst, inl, inr, append_assoc, []}
use Rattle.std.specs.Prelude.{Option, ◌==◌, ◌||◌, nat_lt, if◌then◌else◌}
use Rattle.std.proofs.lemmas.Bool.{cases_Bool, eqb-true}
use Rattle.std.proofs.lemmas.Bool.Decides.{nat_tests}
use Rattle.mlk_text.specs.Reading.{many}
use Rattle.mlk_text.specs.Lexemes.{byte_at, name_at, root_by, root_at}
use Rattle.mlk_text.proofs.Readers.{then_some, pair_parts, with_some}
use Rattle.mlk_text.specs.declared.root.Root.{Root}
use Rattle.mlk_text.specs.declared.root.Root.TheVariants as root
use Rattle.mlk_names.specs.declared.known_symbol.KnownSym.{KnownSym}
use Rattle.mlk_names.specs.declared.known_symbol.KnownSym.TheVariants as known
use Rattle.mlk_names.specs.declared.term.LockTerm.{LockTerm}
use Rattle.mlk_cert_lexemes.specs.Lists.{Each, flat, more}
use Rattle.mlk_cert_lexemes.specs.Texts.{listed, hex, is_plain, byte_text, constant_text, symbol_text, subs_text, root_text, term_text, name_text}
use Rattle.mlk_cert_lexemes.specs.Kinds.{ReadsAsName, HasBytes, IsSymbol, IsNamedRoot, IsTerm}
use Rattle.mlk_cert_lexemes.specs.Reading.{hex_value, escaped_at, piece_at, keep, constant_at, list_at, listed_at, job_by, symbol_by, symbol_at, subs_by, subs_at, term_of, term_at}
use Rattle.mlk_cert_lexemes.proofs.Formats.{Format, Anything, byte-is, flat-is, flat-back, list-is, list-back, listed-format}
use Rattle.mlk_cert_lexemes.proofs.NameFormats.{NoName, name-format, name-first}

-- a hexadecimal digit
hex-is : (b d : ℕ) → hex_value b ≡ Some d → (hex d ≡ b) × (d < 16)
hex-is b d h = grind (arith, nat_tests)

plain-below : (b : ℕ) → is_plain b ≡ true → b < 256
plain-below b e = grind (arith, nat_tests)

plain-spelled : (b : ℕ) → is_plain b ≡ true → (byte_text b ≡ b ∷ []) × (b < 256)
unfolding byte_text
plain-spelled b e = (rw e refl, plain-below b e)

coded-spelled : (b : ℕ) → is_plain b ≡ false → (b == 34) ≡ false → byte_text b ≡ 92 ∷ hex (b / 16) ∷ hex (b % 16) ∷ []
unfolding byte_text
coded-spelled b e q = rw e (rw q refl)

quote-spelled : byte_text 34 ≡ 34 ∷ 34 ∷ []
unfolding byte_text
quote-spelled = refl

or_false : (a b : Bool) → (a || b) ≡ false → (a ≡ false) × (b ≡ false)
or_false true b h = cc h
or_false false b h = (refl, h)

escaped-is : (b : ℕ) (xs ys : List ℕ) → escaped_at xs ≡ Some (b, ys) → (92 ∷ xs ≡ byte_text b ++ ys) × (b < 256)
escaped-is b [] ys h = cc h
escaped-is b (x ∷ []) ys h = cc h
escaped-is b (x ∷ z ∷ xs) ys h =
    let f = then_some (hex_value x) _ (b, ys) h in
    let g = then_some (hex_value z) _ (b, ys) f.2 in
    let a = hex-is x f.0 f.1 in
    let c = hex-is z g.0 g.1 in
    elim (cases_Bool (is_plain (f.0 * 16 + g.0) || ((f.0 * 16 + g.0) == 34))) [
      | inl e ↦ cc (rw e at g.2)
      | inr e ↦
          let p = pair_parts (f.0 * 16 + g.0) b xs ys (rw e at g.2) in
          let n = or_false (is_plain (f.0 * 16 + g.0)) ((f.0 * 16 + g.0) == 34) e in
          let high : (f.0 * 16 + g.0) / 16 ≡ f.0 = omega arith in
          let low : (f.0 * 16 + g.0) % 16 ≡ g.0 = omega arith in
          let P : ℕ → Type 0 = λ v. (92 ∷ x ∷ z ∷ xs ≡ byte_text v ++ ys) × (v < 256) in
          subst P p.0 (
            ap (λ l. 92 ∷ x ∷ z ∷ l) p.1
                ∙ ap (λ v. 92 ∷ v ∷ z ∷ ys) (sym a.0 ∙ ap hex (sym high)) ∙ ap (λ v. 92 ∷ hex ((f.0 * 16 + g.0) / 16) ∷ v ∷ ys) (sym c.0 ∙ ap hex (sym low))
                ∙ ap (λ l. l ++ ys) (sym (coded-spelled (f.0 * 16 + g.0) n.0 n.1)),
            omega arith,
          )
    ]

piece-is : (b : ℕ) (xs ys : List ℕ) → piece_at xs ≡ Some (b, ys) → (xs ≡ byte_text b ++ ys) × (b < 256)
unfolding piece_at
piece-is b [] ys h = cc h
piece-is b (x ∷ xs) ys h = elim (cases_Bool (is_plain x)) [
  | inl e ↦
      let p = pair_parts x b xs ys (rw e at h) in
      let s = plain-spelled x e in
      let P : ℕ → Type 0 = λ v. (x ∷ xs ≡ byte_text v ++ ys) × (v < 256) in
      subst P p.0 (ap (λ l. x ∷ l) p.1 ∙ ap (λ l. l ++ ys) (sym s.0), s.1)
  | inr e ↦ elim (cases_Bool (x == 34)) [
    | inl q ↦
        let k : byte_at 34 xs ≡ Some (b, ys) = rw (e, q) at h in
        let same = byte-is 34 b xs ys k in
        let P : ℕ → Type 0 = λ v. (x ∷ xs ≡ byte_text v ++ ys) × (v < 256) in
        subst P (sym same.1) (ap (λ v. v ∷ xs) (eqb-true x 34 q) ∙ ap (λ l. 34 ∷ l) same.0 ∙ ap (λ l. l ++ ys) (sym quote-spelled), omega arith)
    | inr q ↦ elim (cases_Bool (x == 92)) [
      | inl r ↦
          let s = escaped-is b xs ys (rw (e, q, r) at h) in
          (ap (λ v. v ∷ xs) (eqb-true x 92 r) ∙ s.0, s.1)
      | inr r ↦ cc (rw (e, q, r) at h)
    ]
  ]
]

hex-back : (d : ℕ) → d < 16 → hex_value (hex d) ≡ Some d
hex-back d h = elim (cases_Bool (nat_lt d 10)) [
  | inl e ↦ rw e (low d e)
  | inr e ↦ rw e (high d e h)
]
  where
    low : (d : ℕ) → nat_lt d 10 ≡ true → hex_value (d + 48) ≡ Some d
    low d e = grind (arith, nat_tests)

    high : (d : ℕ) → nat_lt d 10 ≡ false → d < 16 → hex_value (d + 87) ≡ Some d
    high d e h = grind (arith, nat_tests)

coded-kept : (b : ℕ) (ys : List ℕ) → is_plain b ≡ false → (b == 34) ≡ false → ◌≡◌ {A = Option (ℕ × List ℕ)} (if is_plain b || (b == 34) then None else Some (b, ys)) (Some (b, ys))
coded-kept b ys e q = rw e (rw q refl)

coded-back : (b : ℕ) (ys : List ℕ) → b < 256 → is_plain b ≡ false → (b == 34) ≡ false → escaped_at (hex (b / 16) ∷ hex (b % 16) ∷ ys) ≡ Some (b, ys)
coded-back b ys h e q =
    let low : b / 16 < 16 = omega arith in
    let high : b % 16 < 16 = omega arith in
    let whole : b / 16 * 16 + b % 16 ≡ b = omega arith in
    let P : ℕ → Type 0 = λ v. ◌≡◌ {A = Option (ℕ × List ℕ)} (if is_plain v || (v == 34) then None else Some (v, ys)) (Some (b, ys)) in
    rw (hex-back (b / 16) low) (rw (hex-back (b % 16) high) (subst P (sym whole) (coded-kept b ys e q)))

piece-back : (b : ℕ) (ys : List ℕ) → b < 256 → Anything ys → piece_at (byte_text b ++ ys) ≡ Some (b, ys)
unfolding piece_at
piece-back b ys h any = elim (cases_Bool (is_plain b)) [
  | inl e ↦ ap (λ l. piece_at (l ++ ys)) (plain-spelled b e).0 ∙ rw e refl
  | inr e ↦ elim (cases_Bool (b == 34)) [
    | inl q ↦ let is = eqb-true b 34 q in ap (λ v. piece_at (byte_text v ++ ys)) is ∙ ap (λ l. piece_at (l ++ ys)) quote-spelled ∙ ap (λ v. Some (v, ys)) (sym is)
    | inr q ↦ ap (λ l. piece_at (l ++ ys)) (coded-spelled b e q) ∙ coded-back b ys h e q
  ]
]

pub piece-format : Format byte_text (λ b. b < 256) Anything piece_at
piece-format = record { sound = piece-is; complete = piece-back }

pub byte-room : (b : ℕ) → 0 < length (byte_text b)
byte-room b = elim (cases_Bool (is_plain b)) [
  | inl e ↦ let h = ap length (plain-spelled b e).0 in omega arith
  | inr e ↦ elim (cases_Bool (b == 34)) [
    | inl q ↦ let h = ap length (ap byte_text (eqb-true b 34 q) ∙ quote-spelled) in omega arith
    | inr q ↦ let h = ap length (coded-spelled b e q) in omega arith
  ]
]

closing-none : (ys : List ℕ) → byte_at 34 ys ≡ None → piece_at (34 ∷ ys) ≡ None
unfolding piece_at
closing-none ys h = h

-- no quote follows
abbrev pub NoQuote : List ℕ → Type 0
NoQuote ys = byte_at 34 ys ≡ None

pub constant-is : (v xs ys : List ℕ) → constant_at xs ≡ Some (v, ys) → (xs ≡ constant_text v ++ ys) × HasBytes v
unfolding constant_at
constant-is v xs ys h =
    let o = then_some (byte_at 34 xs) _ (v, ys) h in
    let r = then_some (many piece_at keep (suc (length o.0.1)) o.0.1) _ (v, ys) o.2 in
    let c = with_some _ (byte_at 34 r.0.1) v ys r.2 in
    let s = flat-is byte_text (λ b. b < 256) Anything piece_at piece-format _ r.0.0 o.0.1 r.0.1 r.1 in
    let P : List ℕ → Type 0 = λ l. (xs ≡ constant_text l ++ ys) × HasBytes l in
    subst P (sym c.2) (
      (byte-is 34 o.0.0 xs o.0.1 o.1).0 ∙ ap (λ l. 34 ∷ l) (s.0 ∙ ap (λ l. flat byte_text r.0.0 ++ l) (byte-is 34 c.0 r.0.1 ys c.1).0 ∙ sym (append_assoc (flat byte_text r.0.0) (34 ∷ []) ys)),
      s.1,
    )

pub constant-back : (v ys : List ℕ) → HasBytes v → NoQuote ys → constant_at (constant_text v ++ ys) ≡ Some (v, ys)
unfolding constant_at
constant-back v ys is none =
    let assoc = append_assoc (flat byte_text v) (34 ∷ []) ys in
    rw assoc (rw (flat-back byte_text (λ b. b < 256) Anything piece_at piece-format byte-room (λ _. tt) (suc (length (flat byte_text v ++ 34 ∷ ys))) v (34 ∷ ys) is (closing-none ys none) (omega arith)) refl)

pub constant-format : Format constant_text HasBytes NoQuote constant_at
constant-format = record { sound = constant-is; complete = constant-back }

-- what ends a subscript
abbrev pub EndsSymbol : List ℕ → Type 0
EndsSymbol ys = NoQuote ys × NoName ys

symbol-is : (s : KnownSym) (xs ys : List ℕ) → symbol_at xs ≡ Some (s, ys) → (xs ≡ symbol_text s ++ ys) × IsSymbol s
unfolding symbol_at
symbol-is s xs ys h = go (byte_at 34 xs) refl h
  where
    P : KnownSym → Type 0
    P t = (xs ≡ symbol_text t ++ ys) × IsSymbol t

    local : (o : Option (ℕ × List ℕ)) → byte_at 36 xs ≡ o → job_by xs o ≡ Some (s, ys) → (xs ≡ symbol_text s ++ ys) × IsSymbol s
    local (Some d) is h =
        let j = with_some _ (byte_at 74 d.1) s ys h in
        let Q : KnownSym → Type 0 = λ t. (xs ≡ symbol_text t ++ ys) × IsSymbol t in
        subst Q (sym j.2) ((byte-is 36 d.0 xs d.1 is).0 ∙ ap (λ l. 36 ∷ l) (byte-is 74 j.0 d.1 ys j.1).0, tt)
    local None is h =
        let n = with_some known.Local (name_at xs) s ys h in
        let Q : KnownSym → Type 0 = λ t. (xs ≡ symbol_text t ++ ys) × IsSymbol t in
        subst Q (sym n.2) (name-format.sound n.0 xs ys n.1)

    go : (o : Option (ℕ × List ℕ)) → byte_at 34 xs ≡ o → symbol_by xs o ≡ Some (s, ys) → (xs ≡ symbol_text s ++ ys) × IsSymbol s
    go (Some q) is h =
        let c = with_some known.Const (constant_at xs) s ys h in
        let Q : KnownSym → Type 0 = λ t. (xs ≡ symbol_text t ++ ys) × IsSymbol t in
        subst Q (sym c.2) (constant-is c.0 xs ys c.1)
    go None is h = local (byte_at 36 xs) refl h

symbol-back : (s : KnownSym) (ys : List ℕ) → IsSymbol s → EndsSymbol ys → symbol_at (symbol_text s ++ ys) ≡ Some (s, ys)
unfolding symbol_at
symbol-back (known.Const v) ys is e = rw (constant-back v ys is e.0) refl
symbol-back (known.Local n) ys is e =
    rw (name-first 34 n ys refl is) (rw (name-first 36 n ys refl is) (rw (name-format.complete n ys is e.1) refl))
symbol-back known.Job ys is e = refl

pub symbol-format : Format symbol_text IsSymbol EndsSymbol symbol_at
symbol-format = record { sound = symbol-is; complete = symbol-back }

subs-is : (subs : List KnownSym) (xs ys : List ℕ) → subs_at xs ≡ Some (subs, ys) → (xs ≡ subs_text subs ++ ys) × Each IsSymbol subs
unfolding subs_at
subs-is subs xs ys h = go (byte_at 40 xs) refl h
  where
    go : (o : Option (ℕ × List ℕ)) → byte_at 40 xs ≡ o → subs_by xs o ≡ Some (subs, ys) → (xs ≡ subs_text subs ++ ys) × Each IsSymbol subs
    go None is h = let p = pair_parts [] subs xs ys h in
        let P : List KnownSym → Type 0 = λ l. (xs ≡ subs_text l ++ ys) × Each IsSymbol l in
        subst P p.0 (p.1, tt)
    go (Some b) is h =
        let l = then_some (list_at symbol_at 44 b.1) _ (subs, ys) h in
        let c = with_some _ (byte_at 41 l.0.1) subs ys l.2 in
        let r = list-is symbol_text IsSymbol EndsSymbol symbol_at symbol-format 44 l.0.0 b.1 l.0.1 l.1 in
        let assoc : (symbol_text r.0 ++ (more 44 symbol_text r.1 ++ 41 ∷ [])) ++ ys ≡ symbol_text r.0 ++ (more 44 symbol_text r.1 ++ 41 ∷ ys)
        = append_assoc (symbol_text r.0) (more 44 symbol_text r.1 ++ 41 ∷ []) ys ∙ ap (λ z. symbol_text r.0 ++ z) (append_assoc (more 44 symbol_text r.1) (41 ∷ []) ys) in
        let P : List KnownSym → Type 0 = λ z. xs ≡ subs_text z ++ ys in (
          subst P (sym (c.2 ∙ r.2))
              ((byte-is 40 b.0 xs b.1 is).0 ∙ ap (λ z. 40 ∷ z) (r.3 ∙ ap (λ z. symbol_text r.0 ++ (more 44 symbol_text r.1 ++ z)) (byte-is 41 c.0 l.0.1 ys c.1).0 ∙ sym assoc)),
          subst (λ z. Each IsSymbol z) (sym c.2) r.4,
        )

subs-back : (subs : List KnownSym) (ys : List ℕ) → Each IsSymbol subs → byte_at 40 ys ≡ None → subs_at (subs_text subs ++ ys) ≡ Some (subs, ys)
unfolding subs_at
subs-back [] ys is none = rw none refl
subs-back (s ∷ subs) ys (is, others) none =
    let assoc : (symbol_text s ++ (more 44 symbol_text subs ++ 41 ∷ [])) ++ ys ≡ symbol_text s ++ (more 44 symbol_text subs ++ 41 ∷ ys)
    = append_assoc (symbol_text s) (more 44 symbol_text subs ++ 41 ∷ []) ys ∙ ap (λ z. symbol_text s ++ z) (append_assoc (more 44 symbol_text subs) (41 ∷ []) ys) in
    rw assoc (rw (list-back symbol_text IsSymbol EndsSymbol symbol_at symbol-format 44 (λ n. (refl, refl)) s subs (41 ∷ ys) is others (refl, refl) refl) refl)

root-is : (r : Root) (xs ys : List ℕ) → root_at xs ≡ Some (r, ys) → (xs ≡ root_text r ++ ys) × IsNamedRoot r
unfolding root_at
root-is r xs ys h = go (byte_at 94 xs) refl h
  where
    go : (o : Option (ℕ × List ℕ)) → byte_at 94 xs ≡ o → root_by xs o ≡ Some (r, ys) → (xs ≡ root_text r ++ ys) × IsNamedRoot r
    go None is h = let n = with_some root.Local (name_at xs) r ys h in
        let P : Root → Type 0 = λ l. (xs ≡ root_text l ++ ys) × IsNamedRoot l in
        subst P (sym n.2) (name-format.sound n.0 xs ys n.1)
    go (Some c) is h = let n = with_some root.Global (name_at c.1) r ys h in
        let s = name-format.sound n.0 c.1 ys n.1 in
        let P : Root → Type 0 = λ l. (xs ≡ root_text l ++ ys) × IsNamedRoot l in
        subst P (sym n.2) ((byte-is 94 c.0 xs c.1 is).0 ∙ ap (λ l. 94 ∷ l) s.0, s.1)

root-back : (r : Root) (ys : List ℕ) → IsNamedRoot r → NoName ys → root_at (root_text r ++ ys) ≡ Some (r, ys)
unfolding root_at
root-back (root.Global name) ys is none = rw (name-format.complete name ys is none) refl
root-back (root.Local name) ys is none = rw (name-first 94 name ys refl is) (rw (name-format.complete name ys is none) refl)

-- what ends a term
abbrev pub EndsTerm : List ℕ → Type 0
EndsTerm ys = (byte_at 40 ys ≡ None) × NoName ys

subs-stop : (subs : List KnownSym) (ys : List ℕ) → NoName ys → NoName (subs_text subs ++ ys)
subs-stop [] ys h = h
subs-stop (s ∷ subs) ys h = refl

term-is : (t : LockTerm) (xs ys : List ℕ) → term_at xs ≡ Some (t, ys) → (xs ≡ term_text t ++ ys) × IsTerm t
unfolding term_at
term-is t xs ys h =
    let r = then_some (root_at xs) _ (t, ys) h in
    let s = with_some (term_of r.0.0) (subs_at r.0.1) t ys r.2 in
    let one = root-is r.0.0 xs r.0.1 r.1 in
    let two = subs-is s.0 r.0.1 ys s.1 in
    let P : LockTerm → Type 0 = λ l. (xs ≡ term_text l ++ ys) × IsTerm l in
    subst P (sym s.2) (one.0 ∙ ap (λ l. root_text r.0.0 ++ l) two.0 ∙ sym (append_assoc (root_text r.0.0) (subs_text s.0) ys), (one.1, two.1))

term-back : (t : LockTerm) (ys : List ℕ) → IsTerm t → EndsTerm ys → term_at (term_text t ++ ys) ≡ Some (t, ys)
unfolding term_at
term-back t ys is ends =
    rw (append_assoc (root_text t.root) (subs_text t.subs) ys)
    (rw (root-back t.root (subs_text t.subs ++ ys) is.0 (subs-stop t.subs ys ends.1)) (rw (subs-back t.subs ys is.1 ends.0) refl))

pub term-format : Format term_text IsTerm EndsTerm term_at
term-format = record { sound = term-is; complete = term-back }

term-first : (t : LockTerm) (ys : List ℕ) → IsTerm t → byte_at 45 (term_text t ++ ys) ≡ None
term-first t ys is = go t.root is.0
  where
    go : (r : Root) → IsNamedRoot r → byte_at 45 ((root_text r ++ subs_text t.subs) ++ ys) ≡ None
    go (root.Global name) is = refl
    go (root.Local name) is = ap (byte_at 45) (append_assoc name (subs_text t.subs) ys) ∙ name-first 45 name (subs_text t.subs ++ ys) refl is

-- what ends a list of terms
abbrev pub EndsTerms : List ℕ → Type 0
EndsTerms ys = EndsTerm ys × (byte_at 59 ys ≡ None)

pub terms-format : Format (listed term_text) (Each IsTerm) EndsTerms (listed_at term_at)
terms-format = listed-format term_text IsTerm EndsTerm term_at term-format (λ n. (refl, refl)) term-first

-- what ends a list of names
abbrev pub EndsNames : List ℕ → Type 0
EndsNames ys = NoName ys × (byte_at 59 ys ≡ None)

pub kept-format : Format (listed name_text) (Each ReadsAsName) EndsNames (listed_at name_at)
kept-format = listed-format name_text ReadsAsName NoName name_at name-format (λ n. refl) (λ n ys is. name-first 45 n ys refl is)
