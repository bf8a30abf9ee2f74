-- When a play is as the comments of its script say.
use Rattle.std.specs.Prelude.{Bool, false, ◌&&◌, ◌==◌, List}
use Rattle.std.specs.List.{list_all, list_any}
use Rattle.std.specs.Str.{bytes_eq}
use Rattle.ada_events.specs.RefusalNames.{refusal_name}
use Rattle.ada_explain.specs.declared.standstill.Standstill.{Standstill}
use Rattle.ada_expectations.specs.declared.expectation.Expectation.{Expectation}
use Rattle.ada_expectations.specs.declared.expectation.Expected.{Expected}
use Rattle.ada_expectations.specs.declared.expectation.Expected.TheVariants.{Ending, Refused}
use Rattle.ada_expectations.specs.declared.judging.RefusedLine.{RefusedLine}
use Rattle.ada_expectations.specs.Endings.{is_so}

-- that a line is refused is what is expected
abbrev pub is_expected_by : RefusedLine → Expected → Bool
is_expected_by refused (Refused line cause) = line == refused.line && bytes_eq cause.now (refusal_name refused.cause)
is_expected_by refused (Ending ending) = false

-- what a comment says is so: the play ends so, or one of the refused lines is the one
abbrev pub is_met : Standstill → List RefusedLine → Expected → Bool
is_met end refused (Ending ending) = is_so ending end
is_met end refused expected = list_any (λ line. is_expected_by line expected) refused

-- whatever comments say is so, and of each refused line one says it
abbrev pub is_as_expected : List Expectation → Standstill → List RefusedLine → Bool
is_as_expected comments end refused =
    list_all (λ (comment : Expectation). is_met end refused comment.expected) comments
    && list_all (λ line. list_any (λ (comment : Expectation). is_expected_by line comment.expected) comments) refused
