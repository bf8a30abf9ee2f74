use Rattle.ada_agenda.proofs.Noting.{both_put}
use Rattle.ada_triggers.proofs.Quitting.{quit_noted, master_held}
use Rattle.ada_triggers.proofs.endings.after_quit.Goals as goal

pub put_master-requires : goal.put_master-requires
put_master-requires c task of = master_held c.args.view.now c.args.master task c.put_all_unstarted.ensures.lawful c.requires.quits of

pub returns-clause-keeps_up : goal.returns-clause-keeps_up
returns-clause-keeps_up c =
    let old = c.args.agenda.now in
    quit_noted c.args.view.now old c.put_master.new.agenda c.args.master
    (both_put old c.put_all_unstarted.new.agenda c.put_master.new.agenda _ _ c.put_all_unstarted.ensures.put c.put_master.ensures)
