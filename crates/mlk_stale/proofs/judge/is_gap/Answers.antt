use Rattle.mlk_stale.proofs.judge.is_gap.Goals as goal

pub returns-then-is_open : goal.returns-then-is_open
returns-then-is_open c =
    rw (← c.as_slice.ensures.value) (rw (← c.as_slice-then-is_open.ensures.value)
    ((λ is. (c.is_open.ensures.0 c.if-is_open.true, c.none_reaches.ensures.0 is)), λ both. c.none_reaches.ensures.1 both.1))
