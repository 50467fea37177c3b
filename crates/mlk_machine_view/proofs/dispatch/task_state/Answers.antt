use Rattle.mlk_machine_view.proofs.dispatch.task_state.Goals as goal

pub returns-in-Value : goal.returns-in-Value
returns-in-Value c = λ ts. rw c.in-Value.is (c.value_state.ensures ts)

pub returns-in-Local : goal.returns-in-Local
returns-in-Local c = λ ts. rw c.in-Local.is (c.local_state.ensures ts)

pub returns-in-Test : goal.returns-in-Test
returns-in-Test c = λ ts. rw c.in-Test.is (c.test_state.ensures ts)

pub returns-in-Lock : goal.returns-in-Lock
returns-in-Lock c = λ ts. rw c.in-Lock.is (c.lock_state.ensures ts)

pub returns-in-Scope : goal.returns-in-Scope
returns-in-Scope c = λ ts. rw c.in-Scope.is (c.scope_state.ensures ts)

pub returns-in-Line : goal.returns-in-Line
returns-in-Line c = λ ts. rw c.in-Line.is (c.line_state.ensures ts)
