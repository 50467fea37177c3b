-- The definition's states, from those of the code. This project's own.
use Rattle.mlk_machine_jobs.specs.Seen as seen
use Rattle.mlk_machine_jobs.specs.Seen.{State}
use Rattle.mlk_machine_jobs.specs.TaskViews.{touch_of}
use Rattle.mlk_machine_view.specs.declared.shown.State.{State as StateIn}
use Rattle.mlk_machine_view.specs.declared.shown.State.TheVariants as next

abbrev pub state_of : StateIn → State
state_of (next.Ready t) = seen.Ready (touch_of t.now)
state_of (next.Claims names timed) = seen.Claims names.now timed
state_of next.Releases = seen.Releases
state_of next.AsksChoice = seen.AsksChoice
state_of next.Stuck = seen.Stuck
state_of next.Silent = seen.Silent
state_of next.Ended = seen.Ended
state_of next.Stopped = seen.Stopped
