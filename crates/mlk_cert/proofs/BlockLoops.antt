-- Loops over blocks.
use Rattle.std.proofs.Common.{◌≡◌, ◌<◌, ℕ, ◌++◌, List, [], ◌∷◌, length, map, Some, None, Bool, true, false, not, refl, sym, ap, ◌∙◌, inl, inr, nat_eq, Global, arith, length-append}
use Rattle.std.specs.Prelude.{Option, ◌⊎◌, ◌&&◌, ◌||◌, codes, bytes_eq, Vec}
use Rattle.std.specs.Cmp.Lexicographic.{pointwise}
use Rattle.std.specs.List.{list_any}
use Rattle.std.proofs.lemmas.Bool.{cases_Bool}
use Rattle.std.proofs.lemmas.List.{map-append}
use Rattle.std.proofs.lemmas.Slice.Eq.{bytes_eq-Decides}
use Rattle.mlk_text.specs.declared.failure.Failure.{Failure}
use Rattle.mlk_text.specs.declared.failure.Failure.TheVariants.{OutOfMemory, Refused}
use Rattle.mlk_text.specs.Failures.{FailsOn}
use Rattle.mlk_text.specs.Reading.{◌>>=◌, with, put, many}
use Rattle.mlk_text.proofs.Readers.{then_some, with_some, many_goes, many_fails}
use Rattle.mlk_cert_parts.specs.declared.block.EntryCert.{EntryCert}
use Rattle.mlk_cert_parts.specs.Checks.{has_text, are_distinct, entries, fit_blocks, fits}
use Rattle.mlk_cert_lexemes.specs.Reading.{word_at, entry_at}
use Rattle.mlk_cert.specs.Blocks.{fit, rest_at, summary_at, block_of, block_at, new_entry_at, new_block_at, ReadsPoints}
use Rattle.mlk_cert_lexemes.proofs.Formats.{both_true, both_back, word-is}
use Rattle.mlk_cert.proofs.Loops.{put-nil}
use Rattle.mlk_cert.proofs.BlockFormats.{Shortens, block-room}
use Rattle.mlk_cert.proofs.LineFormats.{fit-is}

-- the texts that a set contains
pub seen-text : (ks : List (Vec ℕ Global)) (v : Vec ℕ Global) → list_any (λ k. pointwise nat_eq v.items k.items) ks ≡ has_text (map (λ k. k.items) ks) v.items
seen-text [] v = refl
seen-text (k ∷ ks) v = ap (λ b. pointwise nat_eq v.items k.items || b) (seen-text ks v)

-- a new block is a block, and its entry is new
pub new-some : (points : ReadsPoints) (texts : List (List ℕ)) (xs : List ℕ) (b : EntryCert) (ys : List ℕ) → new_block_at points texts xs ≡ Some (b, ys) → (block_at points xs ≡ Some (b, ys)) × (not (has_text texts b.entry) ≡ true)
unfolding new_block_at new_entry_at block_at
new-some points texts xs b ys h =
    let e = then_some (rest_at entry_at fits xs >>= fit (λ t. not (has_text texts t))) _ (b, ys) h in
    let r = then_some (rest_at entry_at fits xs) (fit (λ t. not (has_text texts t))) e.0 e.1 in
    let f = fit-is (λ t. not (has_text texts t)) r.0 e.0 r.2 in
    let s = then_some (summary_at e.0.1) _ (b, ys) e.2 in
    let p = with_some (block_of e.0.0 s.0.0) (points s.0.1) b ys s.2 in
    (rw (r.1 ∙ ap (λ z. Some z) f.0) e.2, ap (λ z. not (has_text texts z.entry)) p.2 ∙ f.1)

-- without a new block there is no block, or its entry is not new
pub new-none : (points : ReadsPoints) (texts : List (List ℕ)) (xs : List ℕ) → new_block_at points texts xs ≡ None → (block_at points xs ≡ None) ⊎ ((b : EntryCert) × (ys : List ℕ) × (block_at points xs ≡ Some (b, ys)) × (not (has_text texts b.entry) ≡ false))
unfolding new_block_at new_entry_at block_at
new-none points texts xs h = go (rest_at entry_at fits xs) h
  where
    rest : List ℕ → List ℕ → Option (EntryCert × List ℕ)
    rest entry m = summary_at m >>= λ s. with (block_of entry s.0) (points s.1)

    stale : (entry m : List ℕ) → not (has_text texts entry) ≡ false → (o : Option (EntryCert × List ℕ)) → (summary_at m >>= λ s. with (block_of entry s.0) (points s.1)) ≡ o
        → (o ≡ None) ⊎ ((b : EntryCert) × (ys : List ℕ) × (o ≡ Some (b, ys)) × (not (has_text texts b.entry) ≡ false))
    stale entry m old None is = inl refl
    stale entry m old (Some r) is =
        let s = then_some (summary_at m) _ r is in
        let p = with_some (block_of entry s.0.0) (points s.0.1) r.0 r.1 s.2 in
        inr (r.0, r.1, refl, ap (λ z. not (has_text texts z.entry)) p.2 ∙ old)

    go : (o : Option (List ℕ × List ℕ)) → (◌>>=◌ {B = EntryCert × List ℕ} (o >>= fit (λ t. not (has_text texts t))) (λ e. summary_at e.1 >>= λ s. with (block_of e.0 s.0) (points s.1))) ≡ None
        → ((o >>= λ e. summary_at e.1 >>= λ s. with (block_of e.0 s.0) (points s.1)) ≡ None) ⊎ ((b : EntryCert) × (ys : List ℕ) × ((o >>= λ e. summary_at e.1 >>= λ s. with (block_of e.0 s.0) (points s.1)) ≡ Some (b, ys)) × (not (has_text texts b.entry) ≡ false))
    go None h = inl refl
    go (Some e) h = elim (cases_Bool (not (has_text texts e.0))) [
      | inl new ↦ inl (rw new at h)
      | inr old ↦ stale e.0 e.1 old (summary_at e.1 >>= λ s. with (block_of e.0 s.0) (points s.1)) refl
    ]

-- texts without duplicates, and one more
or_assoc : (a b c : Bool) → (a || (b || c)) ≡ ((a || b) || c)
or_assoc true b c = refl
or_assoc false b c = refl

pub has-append : (xs ys : List (List ℕ)) (t : List ℕ) → has_text (xs ++ ys) t ≡ (has_text xs t || has_text ys t)
has-append [] ys t = refl
has-append (x ∷ xs) ys t = ap (λ b. bytes_eq t x || b) (has-append xs ys t) ∙ or_assoc (bytes_eq t x) (has_text xs t) (has_text ys t)

distinct-front : (xs ys : List (List ℕ)) → are_distinct (xs ++ ys) ≡ true → are_distinct xs ≡ true
distinct-front [] ys h = refl
distinct-front (x ∷ xs) ys h =
    let t = both_true (not (has_text (xs ++ ys) x)) (are_distinct (xs ++ ys)) h in
    both_back _ _ (first (has_text xs x) (has_text ys x) (ap not (sym (has-append xs ys x)) ∙ t.0)) (distinct-front xs ys t.1)
  where
    first : (a b : Bool) → not (a || b) ≡ true → not a ≡ true
    first true b h = h
    first false b h = refl

pub blocks-closed : (bs cs : List EntryCert) → fit_blocks (bs ++ cs) ≡ true → fit_blocks bs ≡ true
blocks-closed bs cs h = distinct-front (entries bs) (entries cs) (ap are_distinct (sym (map-append (λ b. b.entry) bs cs)) ∙ h)

pub bytes-turned : (a b : List ℕ) → bytes_eq a b ≡ bytes_eq b a
bytes-turned a b = go (bytes_eq a b) (bytes_eq b a) refl refl
  where
    go : (s t : Bool) → bytes_eq a b ≡ s → bytes_eq b a ≡ t → s ≡ t
    go true true e f = refl
    go false false e f = refl
    go true false e f = sym ((bytes_eq-Decides b a).1 (sym ((bytes_eq-Decides a b).0 e))) ∙ f
    go false true e f = sym e ∙ (bytes_eq-Decides a b).1 (sym ((bytes_eq-Decides b a).0 f))

distinct-step : (texts : List (List ℕ)) (t : List ℕ) → are_distinct texts ≡ true → are_distinct (texts ++ t ∷ []) ≡ not (has_text texts t)
distinct-step [] t h = refl
distinct-step (x ∷ texts) t h =
    let b = both_true (not (has_text texts x)) (are_distinct texts) h in
    ap (λ z. not z && are_distinct (texts ++ t ∷ [])) (has-append texts (t ∷ []) x ∙ ap (λ z. has_text texts x || (z || false)) (bytes-turned x t))
    ∙ ap (λ z. not (has_text texts x || (bytes_eq t x || false)) && z) (distinct-step texts t b.1)
    ∙ last (has_text texts x) (bytes_eq t x) (has_text texts t) b.0
  where
    last : (a b c : Bool) → not a ≡ true → (not (a || (b || false)) && not c) ≡ not (b || c)
    last true b c h = cc h
    last false true c h = refl
    last false false true h = refl
    last false false false h = refl

pub blocks-step : (bs : List EntryCert) (b : EntryCert) → fit_blocks bs ≡ true → fit_blocks (bs ++ b ∷ []) ≡ not (has_text (entries bs) b.entry)
blocks-step bs b h = ap are_distinct (map-append (λ c. c.entry) bs (b ∷ [])) ∙ distinct-step (entries bs) b.entry h

pub entries-push : (bs : List EntryCert) (b : EntryCert) → entries (bs ++ b ∷ []) ≡ entries bs ++ b.entry ∷ []
entries-push bs b = map-append (λ c. c.entry) bs (b ∷ [])

pub block-shorter : (points : ReadsPoints) → Shortens points → (xs m : List ℕ) (b : EntryCert) (ys : List ℕ) → word_at (codes "entry ") xs ≡ Some (codes "entry ", m) → block_at points m ≡ Some (b, ys) → length ys < length xs
block-shorter points room xs m b ys h k =
    let w = ap length (word-is (codes "entry ") (codes "entry ") xs m h).0 in
    let l = length-append (codes "entry ") m in
    let r = block-room points room b m ys k in
    omega arith

fails-late : (front : List EntryCert) (o : Option (List EntryCert × List ℕ)) → fit_blocks front ≡ false → (put front o >>= fit fit_blocks) ≡ None
fails-late front None bad = refl
fails-late front (Some r) bad = elim (cases_Bool (fit_blocks (front ++ r.0))) [
  | inl e ↦ cc (blocks-closed front r.0 e, bad)
  | inr e ↦ rw e refl
]

pub blocks_refused : {R : Type 0} (points : ReadsPoints) → Shortens points → (front : List EntryCert) (n : ℕ) (xs : List ℕ) (whole : Option (List EntryCert × List ℕ)) (m : List ℕ) (e : Failure R)
    → fit_blocks front ≡ true → word_at (codes "entry ") xs ≡ Some (codes "entry ", m) → FailsOn e (new_block_at points (entries front) m) → length xs < n
    → put front (many (word_at (codes "entry ")) (λ _. block_at points) n xs) ≡ put [] whole → FailsOn e (whole >>= fit fit_blocks)
blocks_refused points room front n xs whole m OutOfMemory good is one less h = tt
blocks_refused points room front n xs whole m (Refused r) good is one less h = elim (new-none points (entries front) m one) [
  | inl none ↦
      let gone = sym (put-nil whole) ∙ many_fails (word_at (codes "entry ")) (λ _. block_at points) front n xs (put [] whole) (codes "entry ") m is none less h in
      rw gone refl
  | inr some ↦
      let next = many_goes (word_at (codes "entry ")) (λ _. block_at points) front n xs (put [] whole) (codes "entry ") m some.0 some.1 is some.2 (block-shorter points room xs m some.0 some.1 is some.2) less h in
      let bad = blocks-step front some.0 good ∙ some.3 in
      ap (λ o. o >>= fit fit_blocks) (sym (put-nil whole) ∙ sym next.2) ∙ fails-late (front ++ some.0 ∷ []) (many (word_at (codes "entry ")) (λ _. block_at points) next.0 some.1) bad
]
