-- Places on lines: where the walk begins, after one more command, and in the rounds of a FOR.
use Rattle.std.proofs.Common.{◌≡◌, ℕ, suc, ◌≤◌, true, List, [], ◌∷◌, ◌++◌, Option, Some, None, refl, sym, ap, ◌∙◌, subst, arith, ⊎_elim, inl, inr}
use Rattle.mlk_names.specs.Lists.{Among}
use Rattle.mlk_syntax.specs.Trees.{CommandTree, ControlTree, CommandTrees, finished, then_command, then_for, HeadTree, LineTrees, line, ActionTree, Does}
use Rattle.mlk_program.specs.Entries.{as_lines}
use Rattle.mlk_cert_parts.specs.declared.case.Case.{Case}
use Rattle.mlk_machine_jobs.specs.Calling.{commands_in}
use Rattle.mlk_machine_jobs.specs.Tasks.{Task, LineTree, RunLines}
use Rattle.mlk_walk_state.specs.declared.state.State.{State}
use Rattle.mlk_walk_state.specs.Scope.{listed}
use Rattle.mlk_walk_state.specs.States.{at_rest}
use Rattle.mlk_walk_exprs.specs.declared.walk.Walk.{Walk}
use Rattle.mlk_walk_exprs.specs.Spots.{Spot}
use Rattle.mlk_walk_exprs.specs.Walks.{begin}
use Rattle.mlk_walk_lines.specs.Loops.{commands, one_command, at_word}
use Rattle.mlk_walk_laws.specs.Fewer.{IsClean, IsPart, ListsEachOnce}
use Rattle.mlk_walk_laws.proofs.Rounds.{one_keeps, commands_keep}
use Rattle.mlk_soundness_machine.specs.Described.{World}
use Rattle.mlk_soundness_machine.specs.Places.{line_number, entry_trees, StandIn, next_lines, none_follows, round_of, open_round, AreLastOf, AreRoundOf, BeginsWith, followed, spot_on, ComesTo, alone, acts_to, holds_to, ComesAfter}
use Rattle.mlk_soundness_machine.proofs.Listing.{own_lines, BeginsRound}
use Rattle.mlk_soundness_walk.specs.Commands.{AreOnLine}
use Rattle.mlk_soundness_walk.proofs.Alone.{alone_part}
use Rattle.mlk_syntax.specs.ExprTrees.{Tree}

-- all lines in the first are in the second; and so are those in the block of the first line, or after it
abbrev pub AreWithin : LineTrees → LineTrees → Type 0
AreWithin lines all = (some : LineTrees) → StandIn some lines → StandIn some all

pub lines_behind : (head : HeadTree) (block rest all : LineTrees) → AreWithin (line head block rest) all → AreWithin rest all
lines_behind head block rest all h = λ some i. h some (inr (inr i))

pub lines_below : (head : HeadTree) (block rest all : LineTrees) → AreWithin (line head block rest) all → AreWithin block all
lines_below head block rest all h = λ some i. h some (inr (inl i))

pub first_in : (head : HeadTree) (block rest all : LineTrees) → AreWithin (line head block rest) all → StandIn (line head block rest) all
first_in head block rest all h = h (line head block rest) (inl refl)

-- all commands of a line are its last; and so are those after such ones
pub all_last : (cs : CommandTrees) → AreLastOf cs cs
all_last finished = refl
all_last (then_command c rest) = inl refl
all_last (then_for column index control rest) = inl refl

behind_last : (last rest cs : CommandTrees) → AreLastOf rest last → AreLastOf last cs → AreLastOf rest cs
behind_last last rest finished i j = let e : last ≡ finished = j in subst (λ z. AreLastOf rest z) e i
behind_last last rest (then_command c more) i j =
    ⊎_elim (λ (e : last ≡ then_command c more). subst (λ z. AreLastOf rest z) e i) (λ (k : AreLastOf last more). inr (behind_last last rest more i k)) j
behind_last last rest (then_for column index control more) i j =
    ⊎_elim (λ (e : last ≡ then_for column index control more). subst (λ z. AreLastOf rest z) e i) (λ (k : AreLastOf last more). inr (behind_last last rest more i k)) j

-- these commands and one more
one_further : (done : List CommandTree) (c : CommandTree) (rest : CommandTrees) → followed done (then_command c rest) ≡ followed (done ++ c ∷ []) rest
one_further [] c rest = refl
one_further (d ∷ done) c rest = ap (then_command d) (one_further done c rest)

-- the walk of commands, and then of others
walk_both : (p : Spot) (done : List CommandTree) (cs : CommandTrees) (v : Walk) → commands p (followed done cs) v ≡ commands p cs (commands p (followed done finished) v)
walk_both p [] cs v = refl
walk_both p (d ∷ done) cs v = walk_both p done cs (one_command p v d)

-- commands followed by others are more than those others
abbrev count_commands : CommandTrees → ℕ
count_commands finished = 0
count_commands (then_command c rest) = suc (count_commands rest)
count_commands (then_for column index control rest) = suc (count_commands rest)

no_fewer : (done : List CommandTree) (cs : CommandTrees) → count_commands cs ≤ count_commands (followed done cs)
no_fewer [] cs = omega arith
no_fewer (d ∷ done) cs = let z = no_fewer done cs in omega (arith, z)

none_done : (done : List CommandTree) (cs : CommandTrees) → cs ≡ followed done cs → done ≡ []
none_done [] cs e = refl
none_done (d ∷ done) cs e = let z = no_fewer done cs in let y = ap count_commands e in absurd (omega (arith, z, y))

-- in a round, a job continues with the same lines as after it
round_lines : (K : Task) (rest : CommandTrees) (ts : List Task) → round_of K ≡ Some rest → next_lines (K ∷ ts) ≡ next_lines ts
round_lines (RunLines lines) rest ts h = absurd (cc h)
round_lines K rest ts h = refl

-- A state results from a walk of a line where these commands are left, with these tasks behind them.
pub record Opens (w : World) (p : Spot) (here : LineTree) (cs : CommandTrees) (ts : List Task) (s : State) : Type 0 where
  pub place : AreOnLine w p here cs ts
  pub first : CommandTrees
  pub round : ℕ
  pub begins : BeginsWith first round (commands_in here.0) ts
  pub case : Case
  pub is_listed : Among case (listed p.scope p.line round)
  pub clean : IsClean (commands p first (begin (case ∷ [])))
  pub done : List CommandTree
  pub stands : first ≡ followed done cs
  pub goes_on : Among s (commands p (followed done finished) (begin (case ∷ []))).going

module _ (w : World) (p : Spot) where
  -- at the begin of a line
  pub opens_line : (head : HeadTree) (block behind : LineTrees) → StandIn (line head block behind) (entry_trees p.scope.routines w.entry) → p ≡ spot_on p.scope head block → (others : List LineTree) → none_follows others ≡ true → (ts : List Task) (c : Case)
      → Among c (listed p.scope p.line 0) → IsClean (commands p (commands_in head) (begin (c ∷ []))) → Opens w p (head, block) (commands_in head) (RunLines (as_lines behind ++ others) ∷ ts) (at_rest c)
  opens_line head block behind is spot others none ts c i clean = record {
    place = record { on = record { behind = behind; is_line = is; others = others; ahead = refl; no_more = none }; spot = spot; last = all_last (commands_in head) };
    first = commands_in head;
    round = 0;
    begins = inl (refl, refl, refl);
    case = c;
    is_listed = i;
    clean = clean;
    done = [];
    stands = refl;
    goes_on = inl refl;
  }

  -- at the begin of a round
  pub opens_round : (here : LineTree) (column index : ℕ) (control : Option ControlTree) (rest : CommandTrees) (ts : List Task) → AreOnLine w p here (then_for column index control rest) ts → (K : Task) (c : Case) → round_of K ≡ Some rest
      → Among c (listed p.scope p.line index) → IsClean (commands p rest (begin (c ∷ []))) → Opens w p here rest (K ∷ ts) (at_rest c)
  opens_round here column index control rest ts o K c is i clean = record {
    place = record {
      on = record { behind = o.on.behind; is_line = o.on.is_line; others = o.on.others; ahead = round_lines K rest ts is ∙ o.on.ahead; no_more = o.on.no_more };
      spot = o.spot;
      last = behind_last (then_for column index control rest) rest (commands_in here.0) (inr (all_last rest)) o.last;
    };
    first = rest;
    round = index;
    begins = inr ((column, control, o.last), is);
    case = c;
    is_listed = i;
    clean = clean;
    done = [];
    stands = refl;
    goes_on = inl refl;
  }

  -- after one more command
  pub opens_rest : (here : LineTree) → ListsEachOnce p.scope → (c : CommandTree) (rest : CommandTrees) (ts : List Task) (s u : State) → Opens w p here (then_command c rest) ts s → Among u (one_command p (alone s) c).going → Opens w p here rest ts u
  opens_rest here once c rest ts s u o i =
      let begun : Walk = begin (o.case ∷ []) in
      let before : Walk = commands p (followed o.done finished) begun in
      let whole : IsClean (commands p rest (one_command p before c)) = subst IsClean (walk_both p o.done (then_command c rest) begun) (subst (λ z. IsClean (commands p z begun)) o.stands o.clean) in
      let after : IsClean (one_command p before c) = (commands_keep p once rest).back (one_command p before c) whole in
      let so_far : IsClean before = (one_keeps p c).back before after in
      let part : IsPart (one_command p (alone s) c) (one_command p before c) = (one_keeps p c).part (alone s) before (alone_part s before so_far o.goes_on) after in
      let same : commands p (followed (o.done ++ c ∷ []) finished) begun ≡ one_command p before c =
      ap (λ z. commands p z begun) (sym (one_further o.done c finished)) ∙ walk_both p o.done (then_command c finished) begun in
      record {
        place = record {
          on = o.place.on;
          spot = o.place.spot;
          last = behind_last (then_command c rest) rest (commands_in here.0) (inr (all_last rest)) o.place.last;
        };
        first = o.first;
        round = o.round;
        begins = o.begins;
        case = o.case;
        is_listed = o.is_listed;
        clean = o.clean;
        done = o.done ++ c ∷ [];
        stands = o.stands ∙ one_further o.done c rest;
        goes_on = subst (λ (z : Walk). Among u z.going) (sym same) (part.going u i);
      }

  -- the line and its commands
  module _ (here : LineTree) (cs : CommandTrees) (ts : List Task) (s : State) (o : Opens w p here cs ts s) where
    its_line : p.line ≡ line_number here.0
    its_line = ap (λ (q : Spot). q.line) o.place.spot

    listed_there : Among o.case (listed p.scope (line_number here.0) o.round)
    listed_there = subst (λ n. Among o.case (listed p.scope n o.round)) its_line o.is_listed

    pub comes_to : s ≡ at_rest s.case → ComesTo p.scope (own_lines p.scope w) cs here ts s.case
    comes_to rests = record {
      on = o.place.on;
      first = o.first;
      round = o.round;
      begins = o.begins;
      case = o.case;
      is_listed = listed_there;
      done = o.done;
      stands = o.stands;
      goes_on = subst (λ q. Among (at_rest s.case) (commands q (followed o.done finished) (begin (o.case ∷ []))).going) o.place.spot
          (subst (λ x. Among x (commands p (followed o.done finished) (begin (o.case ∷ []))).going) rests
          o.goes_on);
    }

    -- if a round runs just these commands, none of them is done
    only_case : o.first ≡ cs → s.case ≡ o.case
    only_case e =
        let none : o.done ≡ [] = none_done o.done cs (sym e ∙ o.stands) in
        let i : Among s (at_rest o.case ∷ []) = subst (λ z. Among s (commands p (followed z finished) (begin (o.case ∷ []))).going) none o.goes_on in
        ⊎_elim (λ (k : s ≡ at_rest o.case). ap (λ (x : State). x.case) k) (λ (k : ⊥). absurd k) i

    pub begins_round : open_round ts ≡ Some cs → BeginsRound p.scope (own_lines p.scope w) cs here ts s.case
    begins_round is =
        ⊎_elim
        (λ (k : (o.round ≡ 0) × (o.first ≡ commands_in here.0) × (open_round ts ≡ None)). let z : None ≡ Some cs = sym k.2 ∙ is in absurd (cc z))
        (λ (k : AreRoundOf o.first o.round (commands_in here.0) × (open_round ts ≡ Some o.first)).
        let y : Some o.first ≡ Some cs = sym k.1 ∙ is in
        let e : o.first ≡ cs = cc y in
        record {
          on = o.place.on;
          index = o.round;
          runs = subst (λ z. AreRoundOf z o.round (commands_in here.0)) e k.0;
          is_listed = subst (λ c. Among c (listed p.scope (line_number here.0) o.round)) (sym (only_case e)) listed_there;
        })
        o.begins

  -- after `count` arguments of a command
  pub comes_after : (here : LineTree) (column : ℕ) (condition : Option Tree) (action : ActionTree) (rest : CommandTrees) (ts : List Task) (s : State) → Opens w p here (then_command (Does column condition action) rest) ts s → s ≡ at_rest s.case
      → (begun : State) → holds_to (at_word p column) condition s begun → (count : ℕ) (u : State) → acts_to (at_word p column) action count begun u → u ≡ at_rest u.case
      → ComesAfter p.scope (own_lines p.scope w) action count rest here ts u.case
  comes_after here column condition action rest ts s o rests begun holds count u acts its = record {
    column = column;
    condition = condition;
    before = s.case;
    to_command = comes_to here (then_command (Does column condition action) rest) ts s o rests;
    begun = begun;
    holds = subst (λ q. holds_to (at_word q column) condition (at_rest s.case) begun) o.place.spot (subst (λ x. holds_to (at_word p column) condition x begun) rests holds);
    acts = subst (λ q. acts_to (at_word q column) action count begun (at_rest u.case)) o.place.spot (subst (λ x. acts_to (at_word p column) action count begun x) its acts);
  }
