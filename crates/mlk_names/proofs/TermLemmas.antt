-- What terms denote.
use Rattle.std.proofs.Common.{◌≡◌, ◌↔◌, ◌⊎◌, inl, inr, ℕ, List, refl, sym, ap, ◌∙◌, subst}
use Rattle.std.specs.Prelude.{Contains}
use Rattle.mlk_names.specs.declared.lock_name.LockName.{LockName}
use Rattle.mlk_text.specs.declared.root.Root.{Root}
use Rattle.mlk_names.specs.declared.known_symbol.KnownSym.{KnownSym}
use Rattle.mlk_names.specs.declared.known_symbol.KnownSym.TheVariants.{Const, Local, Job}
use Rattle.mlk_names.specs.declared.term.LockTerm.{LockTerm}
use Rattle.mlk_names.specs.Symbols.{Assignment, StandsFor, sym_of}
use Rattle.mlk_names.specs.Terms.{Names, IsPrefix, HasValues, Mentions, NamesAbove, NamesWithout, SameWhereMentioned}
use Rattle.mlk_names.proofs.ListLemmas.{begins_two, begins_zip, zip_has, zip_of_each, zip_one, all_zip_at}

-- a known symbol denotes one value
pub one_value : (a : Assignment) (s : KnownSym) (v w : List ℕ) → StandsFor a (sym_of s) v → StandsFor a (sym_of s) w → v ≡ w
one_value a (Const value) v w h k = h ∙ sym k
one_value a (Local name) v w h k = cc
one_value a Job v w h k = h ∙ sym k

-- under one assignment a prefix's name is at or above that of the longer term
pub names_above : (s t : LockTerm) → IsPrefix s t → NamesAbove s t
names_above s t p a m n h k = record {
  root = h.root ∙ p.root ∙ sym k.root;
  subs = begins_zip (λ s v. StandsFor a (sym_of s) v) (one_value a) s.subs t.subs m.subs n.subs p.subs h.subs k.subs;
}

-- a term denotes at most one name
pub one_name : (a : Assignment) (t : LockTerm) (m n : LockName) → Names a t m → Names a t n → m ≡ n
one_name a t m n h k =
    let e : m.root ≡ n.root = h.root ∙ sym k.root in
    let f : m.subs ≡ n.subs = zip_one (λ s v. StandsFor a (sym_of s) v) (one_value a) t.subs m.subs n.subs h.subs k.subs in
    ap (λ (x : Root). record m { root = x }) e ∙ ap (λ (x : List (List ℕ)). record n { subs = x }) f

-- of two prefixes of one term, one is a prefix of the other
pub prefix_two : (s t u : LockTerm) → IsPrefix s u → IsPrefix t u → IsPrefix s t ⊎ IsPrefix t s
prefix_two s t u h k =
    let e : s.root ≡ t.root = h.root ∙ sym k.root in
    elim (begins_two s.subs t.subs u.subs h.subs k.subs) [
      | inl b ↦ inl (record { root = e; subs = b })
      | inr b ↦ inr (record { root = sym e; subs = b })
    ]

same_value : (a b : Assignment) (t : LockTerm) → SameWhereMentioned t a b → (s : KnownSym) (v : List ℕ) → Contains t.subs s → StandsFor a (sym_of s) v → StandsFor b (sym_of s) v
same_value a b t same (Const value) v c h = h
same_value a b t same (Local name) v c h = sym (same.locals name c) ∙ h
same_value a b t same Job v c h = h ∙ same.job

names_mentioned : (a b : Assignment) (t : LockTerm) (n : LockName) → SameWhereMentioned t a b → Names a t n → Names b t n
names_mentioned a b t n same h = record {
  root = h.root;
  subs = all_zip_at (λ s v. StandsFor a (sym_of s) v) (λ s v. StandsFor b (sym_of s) v) t.subs n.subs (same_value a b t same) h.subs;
}

turned : (a b : Assignment) (t : LockTerm) → SameWhereMentioned t a b → SameWhereMentioned t b a
turned a b t same = record { locals = λ name c. sym (same.locals name c); job = sym same.job }

-- what a term denotes depends only on the locals that it mentions
pub names_same : (a b : Assignment) (t : LockTerm) (n : LockName) → SameWhereMentioned t a b → Names a t n ↔ Names b t n
names_same a b t n same = (names_mentioned a b t n same, names_mentioned b a t n (turned a b t same))

pub names_without : (t : LockTerm) (name : List ℕ) → (Mentions t name → ⊥) → NamesWithout t name
names_without t name unmentioned a b n same =
    let P : List ℕ → Type 0 = λ x. Mentions t x in
    names_same a b t n (record { locals = λ other c. same.locals other (λ e. unmentioned (subst P e c)); job = same.job })

-- a term's symbol has a value if the term's locals have values
value_there : (a : Assignment) (t : LockTerm) → HasValues a t → (s : KnownSym) → Contains t.subs s → (v : List ℕ) × StandsFor a (sym_of s) v
value_there a t has (Const value) c = (value, refl)
value_there a t has (Local name) c = has name c
value_there a t has Job c = (a.job, refl)

-- a term denotes a name exactly if each local that it mentions has a value
pub some_name : (a : Assignment) (t : LockTerm) → ((n : LockName) × Names a t n) ↔ HasValues a t
some_name a t = (
  λ h name c. zip_has (λ s v. StandsFor a (sym_of s) v) t.subs h.0.subs (Local name) h.1.subs c,
  λ has. let each = zip_of_each (λ s v. StandsFor a (sym_of s) v) t.subs (value_there a t has) in
      (record { root = t.root; subs = each.0 }, record { root = refl; subs = each.1 }),
)
