use Rattle.std.proofs.Common.{◌≡◌, IfOk, IsTrue, Result, Ok, Err, MatchResult, IsErrAnd}
use Rattle.ada_text.specs.declared.fault.Fault.{Fault}
use Rattle.ada_text.specs.declared.fault.Trouble.{Trouble}
use Rattle.ada_types.specs.Types.{is_whole}
use Rattle.ada_types.specs.declared.typed.Typed.{Typed}
use Rattle.ada_types.proofs.checking.check.Goals as goal

-- where only the error is changed, the answer is what it was
same_answer : (P : Typed → Type 0) (F : Trouble → Fault → Type 0) (before : Result Typed Trouble) (after : Result Typed Fault) → IfOk before P
    → MatchResult before (λ answer. after ≡ Ok answer) (λ trouble. IsErrAnd after (F trouble)) → IfOk after P
same_answer P F (Ok answer) after holds is = rw is holds
same_answer P F (Err trouble) (Ok _) holds is = elim is [ ]
same_answer P F (Err trouble) (Err fault) holds is = tt

pub returns-clause-whole : goal.returns-clause-whole
returns-clause-whole c =
    same_answer (λ typed. IsTrue (is_whole typed c.args.tree.now c.args.resolved.now)) _ c.typed.result c.map_err.result c.typed.ensures c.map_err.ensures.cases
