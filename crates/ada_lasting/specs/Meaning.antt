-- Requests in names that last: what they ask of a journal without an end.
use Rattle.std.specs.Prelude.{map}
use Rattle.ada_events.specs.declared.request.Request.{Request}
use Rattle.ada_events.specs.declared.request.Request.TheVariants as request
use Rattle.ada_events.specs.declared.names.Master.{Master}
use Rattle.ada_events.specs.declared.names.Master.TheVariants as master
use Rattle.ada_events.specs.Forced.{task_no}
use Rattle.ada_waiting.specs.declared.reasons.Reason.{Reason}
use Rattle.ada_waiting.specs.declared.reasons.Reason.TheVariants as reason
use Rattle.ada_lasting.specs.declared.reasons.LastingReason.{LastingReason}
use Rattle.ada_lasting.specs.declared.reasons.LastingReason.TheVariants as lasting
use Rattle.ada_lasting.specs.declared.requests.LastingMaster.{LastingMaster}
use Rattle.ada_lasting.specs.declared.requests.LastingMaster.TheVariants.{Body, Block}
use Rattle.ada_lasting.specs.declared.requests.LastingRequest.{LastingRequest}
use Rattle.ada_lasting.specs.declared.requests.LastingRequest.TheVariants.{Open, Create, Activate, Elaborated, Call, Wait}
use Rattle.ada_lasting.specs.declared.requests.LastingRequest.TheVariants.{Delay, End, Close, Complete, Abort, Tick}

abbrev pub meant_master : LastingMaster → Master
meant_master (Body task) = master.Body (task_no task)
meant_master (Block position) = master.Block position

-- what a request asks of a journal without an end, in which tasks and positions have their lasting names
unfoldable pub meant : LastingRequest → Request
meant (Open by) = request.Open (task_no by)
meant (Create by under families) = request.Create (task_no by) (meant_master under) families
meant (Activate by tasks) = request.Activate (task_no by) (map task_no tasks)
meant (Elaborated by ok) = request.Elaborated (task_no by) ok
meant (Call by callee entry patience) = request.Call (task_no by) (task_no callee) entry patience
meant (Wait by choices tail pick) = request.Wait (task_no by) choices tail pick
meant (Delay by duration) = request.Delay (task_no by) duration
meant (End by raised) = request.End (task_no by) raised
meant (Close by) = request.Close (task_no by)
meant (Complete by) = request.Complete (task_no by)
meant (Abort by tasks) = request.Abort (task_no by) (map task_no tasks)
meant (Tick now) = request.Tick now

-- what a reason tells of a journal without an end, in which positions have their lasting names
unfoldable pub meant_reason : LastingReason → Reason
meant_reason lasting.NotStarted = reason.NotStarted
meant_reason (lasting.Activating start) = reason.Activating start
meant_reason (lasting.Queued call) = reason.Queued call
meant_reason (lasting.InRendezvous call) = reason.InRendezvous call
meant_reason (lasting.Waiting wait) = reason.Waiting wait
meant_reason (lasting.Delayed pause) = reason.Delayed pause
meant_reason (lasting.Leaving close) = reason.Leaving close
meant_reason lasting.Completed = reason.Completed
