-- What a line's end requires of the result of a walk without faults.
use Rattle.std.proofs.Common.{◌≡◌, true, false, List, [], ◌∷◌, ◌++◌, map, refl, ap, sym, ◌∙◌, inl, inr, ⊎_elim, subst, Option}
use Rattle.std.specs.Prelude.{if◌then◌else◌}
use Rattle.std.proofs.lemmas.Bool.{cases_Bool, false≢true}
use Rattle.mlk_names.specs.Lists.{Among}
use Rattle.mlk_cert_parts.specs.declared.case.Case.{Case}
use Rattle.mlk_syntax.specs.Trees.{HeadTree, LineHead, LineTrees, no_lines, line}
use Rattle.mlk_walk_state.specs.Scope.{Scope, listed}
use Rattle.mlk_walk_exprs.specs.declared.walk.Walk.{Walk}
use Rattle.mlk_walk_exprs.specs.declared.spot.Block.{Block}
use Rattle.mlk_walk_exprs.specs.Walks.{begin}
use Rattle.mlk_walk_exprs.specs.Spots.{Spot}
use Rattle.mlk_walk_lines.specs.Loops.{commands}
use Rattle.mlk_walk_lines.specs.Endings.{Ended, Ending, Faulty, Leaves, Passes, Around, OfBlock, LineEnd, number_of, state_end, case_end, quit_end, endings, add_ending, add_endings, faults_of, at_end}
use Rattle.mlk_walk_lines.specs.Lines.{next_head, block_with, head_walk, line_walk, found_in, walk_lines}
use Rattle.mlk_walk_laws.specs.Fewer.{IsClean, IsPart, ListsEachOnce}
use Rattle.mlk_walk_laws.specs.Passing.{IsRight, GoesWell, PassesFromEach, EachLinePasses, LinesPass}
use Rattle.mlk_walk_laws.proofs.Lists.{in_front, in_back, in_map}
use Rattle.mlk_walk_laws.proofs.Transfers.{Tells, not_empty}
use Rattle.mlk_walk_laws.proofs.Rounds.{commands_keep, each_alone, no_first, no_second}

abbrev NotFaulty : Ending → Type 0
NotFaulty (Faulty number column code) = ⊥
NotFaulty (Leaves c) = Unit {0}
NotFaulty Passes = Unit {0}

ending_back : (x : Ended) (en : Ending) → (add_ending x en).faults ≡ [] → (x.faults ≡ []) × NotFaulty en
ending_back x (Faulty number column code) h = absurd (not_empty x.faults (record { line = number; column = column; code = code }) h)
ending_back x (Leaves c) h = (h, tt)
ending_back x Passes h = (h, tt)

endings_back : (es : List Ending) (x : Ended) → (add_endings es x).faults ≡ [] → (x.faults ≡ []) × ((en : Ending) → Among en es → NotFaulty en)
endings_back [] x h = (h, λ en i. absurd i)
endings_back (e ∷ es) x h =
    let t = endings_back es (add_ending x e) h in
    let u = ending_back x e t.0 in
    (u.0, λ en i. ⊎_elim (λ (k : en ≡ e). subst NotFaulty (sym k) u.1) (λ (r : Among en es). t.1 en r) i)

case_kept : (x : Ended) (en : Ending) (c : Case) → Among c x.cases → Among c (add_ending x en).cases
case_kept x (Faulty number column code) c h = h
case_kept x (Leaves d) c h = in_front c x.cases (d ∷ []) h
case_kept x Passes c h = h

cases_kept : (es : List Ending) (x : Ended) (c : Case) → Among c x.cases → Among c (add_endings es x).cases
cases_kept [] x c h = h
cases_kept (e ∷ es) x c h = cases_kept es (add_ending x e) c (case_kept x e c h)

left_there : (es : List Ending) (x : Ended) (c : Case) → Among (Leaves c) es → Among c (add_endings es x).cases
left_there [] x c h = absurd h
left_there (e ∷ es) x c (inl k) = cases_kept es (add_ending x e) c (subst (λ z. Among c (add_ending x z).cases) k (in_back c x.cases (c ∷ []) (inl refl)))
left_there (e ∷ es) x c (inr h) = left_there es (add_ending x e) c h

right_there : (ends : List Case) (en : Ending) → NotFaulty en → ((c : Case) → en ≡ Leaves c → Among c ends) → IsRight ends en
right_there ends (Faulty number column code) h k = h
right_there ends (Leaves c) h k = k c refl
right_there ends Passes h k = tt

-- a line's end without faults
module _ (e : LineEnd) (w : Walk) (told : Tells w) (h : (at_end e w).faults ≡ []) where
  end_opens : w.over ≡ false
  end_opens =
      ⊎_elim
      (λ (o : w.over ≡ true).
      absurd (told o (sym (ap (λ b. (if b then faults_of w else add_endings (endings e w) (faults_of w)).faults) o) ∙ h)))
      (λ (o : w.over ≡ false). o) (cases_Bool w.over)

  end_same : at_end e w ≡ add_endings (endings e w) (faults_of w)
  end_same = ap (λ b. if b then faults_of w else add_endings (endings e w) (faults_of w)) end_opens

  end_back : ((faults_of w).faults ≡ []) × ((en : Ending) → Among en (endings e w) → NotFaulty en)
  end_back = endings_back (endings e w) (faults_of w) (sym (ap (λ (x : Ended). x.faults) end_same) ∙ h)

  end_clean : IsClean w
  end_clean = record { faultless = end_back.0; goes_on = end_opens }

  end_right : (ends : List Case) → ((c : Case) → Among c (at_end e w).cases → Among c ends) → (en : Ending) → Among en (endings e w) → IsRight ends en
  end_right ends all en i = right_there ends en (end_back.1 en i) (λ c k.
      all c (subst (λ (x : Ended). Among c x.cases) (sym end_same) (left_there (endings e w) (faults_of w) c (subst (λ z. Among z (endings e w)) k i))))

  part_well : (ends : List Case) → ((c : Case) → Among c (at_end e w).cases → Among c ends) → (v : Walk) → IsPart v w → GoesWell e ends v
  part_well ends all v i = record {
    clean = i.clean;
    going = λ s r. end_right ends all (state_end e s)
        (in_front (state_end e s) (map (state_end e) w.going) (map (case_end e) w.skips ++ map (quit_end e) w.quits) (in_map (state_end e) s w.going (i.going s r)));
    skips = λ c r. end_right ends all (case_end e c)
        (in_back (case_end e c) (map (state_end e) w.going) (map (case_end e) w.skips ++ map (quit_end e) w.quits)
        (in_front (case_end e c) (map (case_end e) w.skips) (map (quit_end e) w.quits) (in_map (case_end e) c w.skips (i.skips c r))));
    quits = λ q r. end_right ends all (quit_end e q)
        (in_back (quit_end e q) (map (state_end e) w.going) (map (case_end e) w.skips ++ map (quit_end e) w.quits)
        (in_back (quit_end e q) (map (case_end e) w.skips) (map (quit_end e) w.quits) (in_map (quit_end e) q w.quits (i.quits q r))));
  }

head_passes : (sc : Scope) → ListsEachOnce sc → (around : Around) (next : Option HeadTree) (block : Option Block) (ends : List Case) (head : HeadTree)
    → (head_walk sc around next block head).faults ≡ [] → ((c : Case) → Among c (head_walk sc around next block head).cases → Among c ends)
    → PassesFromEach sc around next block ends head
head_passes sc once around next block ends (LineHead number level end label formals cs) h all = λ c i.
    let p : Spot = record { scope = sc; line = number; level = level; block = block; word = 1 } in
    let e : LineEnd = record { scope = sc; around = around; next = next; line = number; level = level; column = end } in
    let w = commands p cs (begin (listed sc number 0)) in
    let told = (commands_keep p once cs).tells (begin (listed sc number 0)) (λ o k. false≢true o) in
    part_well e w told h ends all (commands p cs (begin (c ∷ []))) (each_alone p cs once (listed sc number 0) c i (end_clean e w told h))

no_items : {A B : Type 0} (f : A → B) (xs : List A) → map f xs ≡ [] → xs ≡ []
no_items f [] h = refl
no_items f (x ∷ xs) h = cc h

all_pass : (sc : Scope) → ListsEachOnce sc → (around : Around) (lines : LineTrees) (ends : List Case)
    → ((c : Case) → Among c (walk_lines sc around lines).ends → Among c ends) → (walk_lines sc around lines).faults ≡ []
    → EachLinePasses sc around ends lines
all_pass sc once around no_lines ends all h = tt
all_pass sc once around (line head block rest) ends all h =
    let inner = walk_lines sc OfBlock block in
    let own = line_walk sc around (next_head around rest) head block inner in
    let later = walk_lines sc around rest in
    let below = no_first inner.faults (map (found_in (number_of head)) own.faults ++ later.faults) h in
    let beside = no_second inner.faults (map (found_in (number_of head)) own.faults ++ later.faults) h in
    let here = no_items (found_in (number_of head)) own.faults (no_first (map (found_in (number_of head)) own.faults) later.faults beside) in
    let after = no_second (map (found_in (number_of head)) own.faults) later.faults beside in (
      head_passes sc once around (next_head around rest) (block_with block inner.ends) ends head here (λ c r. all c (in_front c own.cases later.ends r)),
      all_pass sc once OfBlock block inner.ends (λ c r. r) below,
      all_pass sc once around rest ends (λ c r. all c (in_back c own.cases later.ends r)) after,
    )

pub lines_pass : LinesPass
lines_pass sc around lines once h = all_pass sc once around lines (walk_lines sc around lines).ends (λ c r. r) h
