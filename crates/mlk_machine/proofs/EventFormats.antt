-- Lines of a file of events, and their readers: what is read is the text, and each text is read.
use Rattle.std.proofs.Common.{◌≡◌, ◌<◌, ℕ, suc, ◌++◌, List, ◌∷◌, length, Option, Some, None, Bool, true, false, refl, sym, ap, ◌∙◌, arith, subst, inl, inr, append_assoc, lit<, []}
use Rattle.std.specs.Prelude.{◌==◌, codes}
use Rattle.std.specs.Fmt.{decimal}
use Rattle.std.proofs.lemmas.Bool.{cases_Bool, eqb-true}
use Rattle.mlk_text.specs.Reading.{many}
use Rattle.mlk_text.specs.Lexemes.{digits, byte_at}
use Rattle.mlk_text.proofs.Readers.{then_some, pair_parts, with_some}
use Rattle.mlk_cert_lexemes.specs.Lists.{flat, more}
use Rattle.mlk_cert_lexemes.specs.Texts.{byte_text, constant_text}
use Rattle.mlk_cert_lexemes.specs.Kinds.{HasBytes, IsEntryText}
use Rattle.mlk_cert_lexemes.specs.Reading.{word_at, number_at, positive, constant_at, next, entry_at}
use Rattle.mlk_cert_lexemes.proofs.Formats.{Format, Anything, byte-is, word-is, word-back, more-is, more-back}
use Rattle.mlk_cert_lexemes.proofs.NumberFormats.{number-format, positive-is, not-zero}
use Rattle.mlk_cert_lexemes.proofs.TermFormats.{NoQuote, constant-is, constant-back, constant-format}
use Rattle.mlk_cert_lexemes.proofs.EntryFormats.{entry-format}
use Rattle.mlk_machine.specs.declared.event_line.Beginning.{Beginning}
use Rattle.mlk_machine.specs.declared.event_line.EventLine.{EventLine}
use Rattle.mlk_machine.specs.declared.event_line.EventLine.TheVariants.{Begin, Go, GoValue, GoTruth, Run, Abort}
use Rattle.mlk_machine.specs.EventTexts.{greatest_job, IsJob, truth_text, test_digit, begin_text, event_line_text, line_text, IsBeginning, IsEventLine}
use Rattle.mlk_machine.specs.EventReading.{job_at, test_at, head_at, beginning_of, begin_at, no_by, yes_by, chosen_at, choice_by, go_at, abort_by, run_by, go_by, begin_by, event_line_at, line_at}

-- the number of a job
abbrev NoDigit : List ℕ → Type 0
NoDigit ys = digits ys ≡ 0

job-is : (k : ℕ) (xs ys : List ℕ) → job_at xs ≡ Some (k, ys) → (xs ≡ decimal k ++ ys) × IsJob k
job-is k xs ys h =
    let n = then_some (number_at greatest_job xs) positive (k, ys) h in
    let pos = positive-is n.0 k ys n.2 in
    let one = (number-format greatest_job (lit< tt)).sound k xs ys (n.1 ∙ ap (λ z. Some z) pos.0) in
    (one.0, record { low = pos.1; high = one.1 })

job-back : (k : ℕ) (ys : List ℕ) → IsJob k → NoDigit ys → job_at (decimal k ++ ys) ≡ Some (k, ys)
job-back k ys is none =
    rw ((number-format greatest_job (lit< tt)).complete k ys is.high none) (rw (not-zero k is.low) refl)

-- `$TEST`
test-is : (t : Bool) (xs ys : List ℕ) → test_at xs ≡ Some (t, ys) → xs ≡ test_digit t ∷ ys
test-is t [] ys h = cc h
test-is t (b ∷ xs) ys h = elim (cases_Bool (b == 48)) [
  | inl e ↦
      let p = pair_parts false t xs ys (rw e at h) in
      rw (← p.0) (ap (λ n. n ∷ xs) (eqb-true b 48 e) ∙ ap (λ (l : List ℕ). 48 ∷ l) p.1)
  | inr e ↦ elim (cases_Bool (b == 49)) [
    | inl d ↦
        let p = pair_parts true t xs ys (rw (e, d) at h) in
        rw (← p.0) (ap (λ n. n ∷ xs) (eqb-true b 49 d) ∙ ap (λ (l : List ℕ). 49 ∷ l) p.1)
    | inr d ↦ cc (rw (e, d) at h)
  ]
]

test-back : (t : Bool) (ys : List ℕ) → test_at (test_digit t ∷ ys) ≡ Some (t, ys)
test-back true ys = refl
test-back false ys = refl

-- a job that begins
head-is : (k : ℕ) (e : List ℕ) (t : Bool) (xs ys : List ℕ) → head_at xs ≡ Some ((k, e, t), ys)
    → (xs ≡ decimal k ++ 32 ∷ (e ++ 32 ∷ (test_digit t ∷ ys))) × IsJob k × IsEntryText e
unfolding head_at
head-is k e t xs ys h =
    let j = then_some (job_at xs) _ ((k, e, t), ys) h in
    let a = then_some (byte_at 32 j.0.1) _ ((k, e, t), ys) j.2 in
    let n = then_some (entry_at a.0.1) _ ((k, e, t), ys) a.2 in
    let b = then_some (byte_at 32 n.0.1) _ ((k, e, t), ys) n.2 in
    let s = with_some (λ (u : Bool). (j.0.0, n.0.0, u)) (test_at b.0.1) (k, e, t) ys b.2 in
    let one = job-is j.0.0 xs j.0.1 j.1 in
    let two = entry-format.sound n.0.0 a.0.1 n.0.1 n.1 in
    let three = test-is s.0 b.0.1 ys s.1 in
    let P : ℕ × List ℕ × Bool → Type 0 =
    λ z. (xs ≡ decimal z.0 ++ 32 ∷ (z.1 ++ 32 ∷ (test_digit z.2 ∷ ys))) × IsJob z.0 × IsEntryText z.1 in
    subst P (sym s.2) (
      one.0
          ∙ ap (λ l. decimal j.0.0 ++ l) ((byte-is 32 a.0.0 j.0.1 a.0.1 a.1).0
          ∙ ap (λ (l : List ℕ). 32 ∷ l) (two.0
          ∙ ap (λ l. n.0.0 ++ l) ((byte-is 32 b.0.0 n.0.1 b.0.1 b.1).0 ∙ ap (λ (l : List ℕ). 32 ∷ l) three))),
      one.1,
      two.1,
    )

begin-is : (o : EventLine) (xs ys : List ℕ) → begin_at xs ≡ Some (o, ys) → (codes "begin " ++ xs ≡ event_line_text o ++ ys) × IsEventLine o
unfolding begin_at
begin-is o xs ys h =
    let d = then_some (head_at xs) _ (o, ys) h in
    let m = with_some (beginning_of d.0.0) (many (byte_at 32) (next constant_at) (suc (length d.0.1)) d.0.1) o ys d.2 in
    let one = head-is d.0.0.0 d.0.0.1 d.0.0.2 xs d.0.1 d.1 in
    let two = more-is constant_text HasBytes NoQuote constant_at constant-format 32 (suc (length d.0.1)) m.0 d.0.1 ys m.1 in
    let P : EventLine → Type 0 = λ z. (codes "begin " ++ xs ≡ event_line_text z ++ ys) × IsEventLine z in
    let assoc : (decimal d.0.0.0 ++ 32 ∷ (d.0.0.1 ++ 32 ∷ (test_digit d.0.0.2 ∷ more 32 constant_text m.0))) ++ ys
    ≡ decimal d.0.0.0 ++ 32 ∷ (d.0.0.1 ++ 32 ∷ (test_digit d.0.0.2 ∷ (more 32 constant_text m.0 ++ ys))) =
    simp append_assoc in
    subst P (sym m.2) (
      ap (λ l. codes "begin " ++ l) (one.0
          ∙ ap (λ l. decimal d.0.0.0 ++ 32 ∷ (d.0.0.1 ++ 32 ∷ (test_digit d.0.0.2 ∷ l))) two.0 ∙ sym assoc),
      record { job = one.1; entry = one.2; values = two.1 },
    )

-- what ends a line
abbrev Ends : List ℕ → Type 0
Ends ys = (zs : List ℕ) × (ys ≡ 10 ∷ zs)

begin-back : (b : Beginning) (zs : List ℕ) → IsBeginning b → begin_at (begin_text b ++ 10 ∷ zs) ≡ Some (Begin b, 10 ∷ zs)
unfolding begin_at head_at
begin-back b zs is =
    let ys : List ℕ = 10 ∷ zs in
    let after : List ℕ = more 32 constant_text b.values ++ ys in
    let assoc : (decimal b.job ++ 32 ∷ (b.entry ++ 32 ∷ (test_digit b.test ∷ more 32 constant_text b.values))) ++ ys
    ≡ decimal b.job ++ 32 ∷ (b.entry ++ 32 ∷ (test_digit b.test ∷ after)) = simp append_assoc in
    rw assoc
    (rw (job-back b.job (32 ∷ (b.entry ++ 32 ∷ (test_digit b.test ∷ after))) is.job refl)
    (rw (entry-format.complete b.entry (32 ∷ (test_digit b.test ∷ after)) is.entry refl)
    (rw (test-back b.test after)
    (rw (more-back constant_text HasBytes NoQuote constant_at constant-format 32 (λ n. refl) (suc (length after)) b.values ys
    is.values refl refl (omega arith)) refl))))

-- a step
chosen-is : (k : ℕ) (o : EventLine) (xs ys : List ℕ) → IsJob k → chosen_at k xs ≡ Some (o, ys)
    → (codes "go " ++ (decimal k ++ 32 ∷ xs) ≡ event_line_text o ++ ys) × IsEventLine o
unfolding chosen_at
chosen-is k o xs ys is h = yes (word_at (codes "yes") xs) refl h
  where
    P : EventLine → Type 0
    P z = (codes "go " ++ (decimal k ++ 32 ∷ xs) ≡ event_line_text z ++ ys) × IsEventLine z

    longer : (l m : List ℕ) → xs ≡ l ++ m → codes "go " ++ (decimal k ++ 32 ∷ xs) ≡ (codes "go " ++ (decimal k ++ 32 ∷ l)) ++ m
    longer l m e =
        let assoc : (decimal k ++ 32 ∷ l) ++ m ≡ decimal k ++ 32 ∷ (l ++ m) = append_assoc (decimal k) (32 ∷ l) m in
        ap (λ r. codes "go " ++ (decimal k ++ 32 ∷ r)) e ∙ ap (λ r. codes "go " ++ r) (sym assoc)

    no : (w : Option (List ℕ × List ℕ)) → word_at (codes "no") xs ≡ w → no_by k xs w ≡ Some (o, ys) → P o
    no (Some w) e g =
        let p = pair_parts (GoTruth k false) o w.1 ys g in
        let s = word-is (codes "no") w.0 xs w.1 e in
        subst P p.0 (longer (codes "no") ys (s.0 ∙ ap (λ r. codes "no" ++ r) p.1), is)
    no None e g =
        let p = with_some (GoValue k) (constant_at xs) o ys g in
        let s = constant-is p.0 xs ys p.1 in
        subst P (sym p.2) (longer (constant_text p.0) ys s.0, (is, s.1))

    yes : (w : Option (List ℕ × List ℕ)) → word_at (codes "yes") xs ≡ w → yes_by k xs w ≡ Some (o, ys) → P o
    yes (Some w) e g =
        let p = pair_parts (GoTruth k true) o w.1 ys g in
        let s = word-is (codes "yes") w.0 xs w.1 e in
        subst P p.0 (longer (codes "yes") ys (s.0 ∙ ap (λ r. codes "yes" ++ r) p.1), is)
    yes None e g = no (word_at (codes "no") xs) refl g

go-is : (o : EventLine) (xs ys : List ℕ) → go_at xs ≡ Some (o, ys) → (codes "go " ++ xs ≡ event_line_text o ++ ys) × IsEventLine o
unfolding go_at
go-is o xs ys h =
    let j = then_some (job_at xs) _ (o, ys) h in
    let one = job-is j.0.0 xs j.0.1 j.1 in
    let r = go (byte_at 32 j.0.1) j.0.0 j.0.1 one.1 refl j.2 in
    (ap (λ l. codes "go " ++ l) one.0 ∙ r.0, r.1)
  where
    go : (b : Option (ℕ × List ℕ)) (k : ℕ) (rest : List ℕ) → IsJob k → byte_at 32 rest ≡ b
        → choice_by k rest b ≡ Some (o, ys) → (codes "go " ++ (decimal k ++ rest) ≡ event_line_text o ++ ys) × IsEventLine o
    go (Some b) k rest is e g =
        let s = byte-is 32 b.0 rest b.1 e in
        let c = chosen-is k o b.1 ys is g in
        (ap (λ l. codes "go " ++ (decimal k ++ l)) s.0 ∙ c.0, c.1)
    go None k rest is e g =
        let p = pair_parts (Go k) o rest ys g in
        let P : EventLine → Type 0 = λ z. (codes "go " ++ (decimal k ++ rest) ≡ event_line_text z ++ ys) × IsEventLine z in
        subst P p.0 (ap (λ l. codes "go " ++ (decimal k ++ l)) p.1, is)

-- what a line says
pub order-is : (o : EventLine) (xs ys : List ℕ) → event_line_at xs ≡ Some (o, ys) → (xs ≡ event_line_text o ++ ys) × IsEventLine o
unfolding event_line_at
order-is o xs ys h = first (word_at (codes "begin ") xs) refl h
  where
    P : EventLine → Type 0
    P z = (xs ≡ event_line_text z ++ ys) × IsEventLine z

    last : (w : Option (List ℕ × List ℕ)) → word_at (codes "abort ") xs ≡ w → abort_by w ≡ Some (o, ys) → P o
    last (Some w) e g =
        let j = with_some Abort (job_at w.1) o ys g in
        let s = job-is j.0 w.1 ys j.1 in
        subst P (sym j.2) ((word-is (codes "abort ") w.0 xs w.1 e).0 ∙ ap (λ l. codes "abort " ++ l) s.0, s.1)
    last None e g = cc g

    third : (w : Option (List ℕ × List ℕ)) → word_at (codes "run ") xs ≡ w → run_by xs w ≡ Some (o, ys) → P o
    third (Some w) e g =
        let j = with_some Run (job_at w.1) o ys g in
        let s = job-is j.0 w.1 ys j.1 in
        subst P (sym j.2) ((word-is (codes "run ") w.0 xs w.1 e).0 ∙ ap (λ l. codes "run " ++ l) s.0, s.1)
    third None e g = last (word_at (codes "abort ") xs) refl g

    second : (w : Option (List ℕ × List ℕ)) → word_at (codes "go ") xs ≡ w → go_by xs w ≡ Some (o, ys) → P o
    second (Some w) e g =
        let s = go-is o w.1 ys g in ((word-is (codes "go ") w.0 xs w.1 e).0 ∙ s.0, s.1)
    second None e g = third (word_at (codes "run ") xs) refl g

    first : (w : Option (List ℕ × List ℕ)) → word_at (codes "begin ") xs ≡ w → begin_by xs w ≡ Some (o, ys) → P o
    first (Some w) e g =
        let s = begin-is o w.1 ys g in ((word-is (codes "begin ") w.0 xs w.1 e).0 ∙ s.0, s.1)
    first None e g = second (word_at (codes "go ") xs) refl g

-- each text is read
begin_go : (l : List ℕ) → word_at (codes "begin ") (codes "go " ++ l) ≡ None
unfolding word_at
begin_go l = refl

begin_run : (l : List ℕ) → word_at (codes "begin ") (codes "run " ++ l) ≡ None
unfolding word_at
begin_run l = refl

go_run : (l : List ℕ) → word_at (codes "go ") (codes "run " ++ l) ≡ None
unfolding word_at
go_run l = refl

begin_abort : (l : List ℕ) → word_at (codes "begin ") (codes "abort " ++ l) ≡ None
unfolding word_at
begin_abort l = refl

go_abort : (l : List ℕ) → word_at (codes "go ") (codes "abort " ++ l) ≡ None
unfolding word_at
go_abort l = refl

run_abort : (l : List ℕ) → word_at (codes "run ") (codes "abort " ++ l) ≡ None
unfolding word_at
run_abort l = refl

yes_no : (l : List ℕ) → word_at (codes "yes") (codes "no" ++ l) ≡ None
unfolding word_at
yes_no l = refl

yes_quote : (l : List ℕ) → word_at (codes "yes") (34 ∷ l) ≡ None
unfolding word_at
yes_quote l = refl

no_quote : (l : List ℕ) → word_at (codes "no") (34 ∷ l) ≡ None
unfolding word_at
no_quote l = refl

go-back : (k : ℕ) (zs : List ℕ) → IsJob k → go_at (decimal k ++ 10 ∷ zs) ≡ Some (Go k, 10 ∷ zs)
unfolding go_at
go-back k zs is = rw (job-back k (10 ∷ zs) is refl) refl

go-chosen : (k : ℕ) (xs : List ℕ) → IsJob k → go_at (decimal k ++ 32 ∷ xs) ≡ chosen_at k xs
unfolding go_at
go-chosen k xs is = rw (job-back k (32 ∷ xs) is refl) refl

value-back : (k : ℕ) (v zs : List ℕ) → HasBytes v → chosen_at k (constant_text v ++ 10 ∷ zs) ≡ Some (GoValue k v, 10 ∷ zs)
unfolding chosen_at
value-back k v zs is =
    let tail : List ℕ = (flat byte_text v ++ 34 ∷ []) ++ 10 ∷ zs in
    rw (yes_quote tail) (rw (no_quote tail) (rw (constant-back v (10 ∷ zs) is refl) refl))

truth-back : (k : ℕ) (t : Bool) (zs : List ℕ) → chosen_at k (truth_text t ++ 10 ∷ zs) ≡ Some (GoTruth k t, 10 ∷ zs)
unfolding chosen_at
truth-back k true zs = rw (word-back (codes "yes") (10 ∷ zs)) refl
truth-back k false zs = rw (yes_no (10 ∷ zs)) (rw (word-back (codes "no") (10 ∷ zs)) refl)

step-back : (o : EventLine) (l zs : List ℕ) → go_at l ≡ Some (o, zs) → event_line_at (codes "go " ++ l) ≡ Some (o, zs)
unfolding event_line_at
step-back o l zs h = rw (begin_go l) (rw (word-back (codes "go ") l) h)

order-back : (o : EventLine) (zs : List ℕ) → IsEventLine o → event_line_at (event_line_text o ++ 10 ∷ zs) ≡ Some (o, 10 ∷ zs)
unfolding event_line_at
order-back (Begin b) zs is =
    rw (append_assoc (codes "begin ") (begin_text b) (10 ∷ zs))
    (rw (word-back (codes "begin ") (begin_text b ++ 10 ∷ zs)) (begin-back b zs is))
order-back (Go k) zs is =
    ap event_line_at (append_assoc (codes "go ") (decimal k) (10 ∷ zs))
    ∙ step-back (Go k) (decimal k ++ 10 ∷ zs) (10 ∷ zs) (go-back k zs is)
order-back (GoValue k v) zs (is, value) =
    let assoc : (decimal k ++ 32 ∷ constant_text v) ++ 10 ∷ zs ≡ decimal k ++ 32 ∷ (constant_text v ++ 10 ∷ zs) =
    append_assoc (decimal k) (32 ∷ constant_text v) (10 ∷ zs) in
    ap event_line_at (append_assoc (codes "go ") (decimal k ++ 32 ∷ constant_text v) (10 ∷ zs) ∙ ap (λ l. codes "go " ++ l) assoc)
    ∙ step-back (GoValue k v) (decimal k ++ 32 ∷ (constant_text v ++ 10 ∷ zs)) (10 ∷ zs)
    (go-chosen k (constant_text v ++ 10 ∷ zs) is ∙ value-back k v zs value)
order-back (GoTruth k t) zs is =
    let assoc : (decimal k ++ 32 ∷ truth_text t) ++ 10 ∷ zs ≡ decimal k ++ 32 ∷ (truth_text t ++ 10 ∷ zs) =
    append_assoc (decimal k) (32 ∷ truth_text t) (10 ∷ zs) in
    ap event_line_at (append_assoc (codes "go ") (decimal k ++ 32 ∷ truth_text t) (10 ∷ zs) ∙ ap (λ l. codes "go " ++ l) assoc)
    ∙ step-back (GoTruth k t) (decimal k ++ 32 ∷ (truth_text t ++ 10 ∷ zs)) (10 ∷ zs)
    (go-chosen k (truth_text t ++ 10 ∷ zs) is ∙ truth-back k t zs)
order-back (Run k) zs is =
    let l : List ℕ = decimal k ++ 10 ∷ zs in
    rw (append_assoc (codes "run ") (decimal k) (10 ∷ zs))
    (rw (begin_run l) (rw (go_run l) (rw (word-back (codes "run ") l) (rw (job-back k (10 ∷ zs) is refl) refl))))
order-back (Abort k) zs is =
    let l : List ℕ = decimal k ++ 10 ∷ zs in
    rw (append_assoc (codes "abort ") (decimal k) (10 ∷ zs))
    (rw (begin_abort l) (rw (go_abort l) (rw (run_abort l)
    (rw (word-back (codes "abort ") l) (rw (job-back k (10 ∷ zs) is refl) refl)))))

-- a line
line-is : (o : EventLine) (xs ys : List ℕ) → line_at xs ≡ Some (o, ys) → (xs ≡ line_text o ++ ys) × IsEventLine o
unfolding line_at
line-is o xs ys h =
    let r = then_some (event_line_at xs) _ (o, ys) h in
    let e = with_some (λ _. r.0.0) (byte_at 10 r.0.1) o ys r.2 in
    let one = order-is r.0.0 xs r.0.1 r.1 in
    let P : EventLine → Type 0 = λ z. (xs ≡ line_text z ++ ys) × IsEventLine z in
    subst P (sym e.2) (
      one.0 ∙ ap (λ l. event_line_text r.0.0 ++ l) (byte-is 10 e.0 r.0.1 ys e.1).0
          ∙ sym (append_assoc (event_line_text r.0.0) (10 ∷ []) ys),
      one.1,
    )

line-back : (o : EventLine) (ys : List ℕ) → IsEventLine o → line_at (line_text o ++ ys) ≡ Some (o, ys)
unfolding line_at
line-back o ys is = rw (append_assoc (event_line_text o) (10 ∷ []) ys) (rw (order-back o ys is) refl)

pub line-format : Format line_text IsEventLine Anything line_at
line-format = record { sound = line-is; complete = λ o ys is any. line-back o ys is }
