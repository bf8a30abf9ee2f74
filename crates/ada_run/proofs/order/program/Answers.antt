use Rattle.std.proofs.Common.{◌≡◌, true, ap, ap₂, ◌∙◌, codes, rules}
use Rattle.std.proofs.lemmas.Result.{IfOk-weaker}
use Rattle.clap.specs.Simple.{app_of_fields, on_top}
use Rattle.clap.specs.Words.{App, Shape, app_of, new_app, rule_of, with_rule, with_subcommand}
use Rattle.ada_run.specs.Orders.{free_flag, replay_command, run_command, bare}
use Rattle.ada_run.proofs.order.program.Goals as goal

pub returns : goal.returns
returns c =
    let flag : rule_of c.help-free.result ≡ free_flag = search rules in
    let replay : app_of c.about-replay.result ≡ replay_command = ap app_of_fields c.about-replay.ensures ∙ c.new.ensures.app in
    let run : app_of c.in_ok-run.run' ≡ run_command =
    c.in_ok-run.ensures.shape (search rules) ∙ ap₂ with_rule (ap app_of_fields c.about.ensures ∙ c.new-3.ensures.app) flag in
    let named : app_of c.about-2.result ≡ new_app (codes "adatask") = ap app_of_fields c.about-2.ensures ∙ c.new-4.ensures.app in
    let versioned : app_of c.version.result ≡ bare =
    ap app_of_fields c.version.ensures ∙ ap (on_top (λ (s : Shape). record s { has_version = true })) named in
    let top : app_of c.after_help.result ≡ bare = ap app_of_fields c.after_help.ensures ∙ versioned in
    let first : app_of c.in_ok-subcommand.field-0 ≡ with_subcommand bare replay_command.top =
    c.in_ok-subcommand.ensures.shape (search rules) ∙ ap₂ with_subcommand top (ap (λ (a : App). a.top) replay) in
    IfOk-weaker c.subcommand-2.result _ _ (λ command added. added.shape (search rules) ∙ ap₂ with_subcommand first (ap (λ (a : App). a.top) run))
    c.subcommand-2.ensures
