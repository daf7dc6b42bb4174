use Rattle.std.proofs.Common.{◌≡◌, Err, ap, sym}
use Rattle.std.specs.Option.{option_map_or}
use Rattle.test_runner_core_workspace.specs.Lister.{answer_of, table_answer}
use Rattle.test_runner_core_workspace.proofs.Tables.{answered}
use Rattle.test_runner_core_workspace.proofs.table_lister.TableListerLister.list.Goals.{in-Some, in-None+in_ok-clone-in-None}
use Rattle.test_runner_core_workspace.proofs.table_lister.TableListerLister.list.Goals as goal

pub returns-clause-answers : goal.returns-clause-answers
returns-clause-answers c =
    let table : table_answer c.args.self.now.workspace c.args.binary.now.id ≡ option_map_or (λ it. answer_of it.now.now.tests) c.get.result (Err c.args.binary.now.id)
    = rw (← c.self.view_is) (answered c.self.inside.index c.self.inside.record.now c.self.invariant c.args.binary.now.id c.as_str.result.now c.as_str.ensures c.get.result c.get.ensures.value) in
    elim c.match-get.branch [
      | in-Some w ↦ rw (table, w.in-Some.is, w.result-is) w.listed.ensures
      | in-None+in_ok-clone-in-None w ↦ rw (table, w.in-None.is, w.result-is) (ap Err (sym w.in_ok-clone-in-None.ensures.cases))
    ]
