use Rattle.std.proofs.Common.{◌≡◌, ℕ, ◌+◌, ◌<◌, length, map, take, count_by, sym, ap, ◌∙◌, refl, arith}
use Rattle.std.proofs.lemmas.List.{length-map, take_all}
use Rattle.desk.specs.Shown.{shown}
use Rattle.choose.specs.declared.decision.Reason.{Reason}
use Rattle.choose.specs.declared.decision.Reason.TheVariants.{Marked, Taint, Cpu, Memory, Pods}
use Rattle.choose.specs.Choice.{is_for}
use Rattle.choose.specs.inside.Alone.{verdicts_alone}
use Rattle.choose.proofs.OnePass.{many_alone, one_more_counted, none_by_plugin, none_by_final}
use Rattle.choose.proofs.alone.counts_alone.Goals as goal

-- one node more is counted
pub loop-at-preserved : goal.loop-at-preserved
loop-at-preserved c =
    let below : c.loop-at.at < length c.args.rows.now = omega (arith, c.loop-at-test.true, c.loop-at.invariant.last) in
    let more = λ (reason : Reason) (n : ℕ). one_more_counted c.args.pod.now c.args.rows.now reason c.loop-at.at c.index-rows-at.result n c.built_in-found.result below c.index-rows-at.is c.built_in-found.ensures in
    record {
      last = refl;
      marked = ap (λ n. c.loop-at.marked + n) c.one_for-marked.ensures.value ∙ more Marked c.loop-at.marked c.loop-at.invariant.marked;
      taint = ap (λ n. c.loop-at.taint + n) c.one_for-taint.ensures.value ∙ more Taint c.loop-at.taint c.loop-at.invariant.taint;
      cpu = ap (λ n. c.loop-at.cpu + n) c.one_for-cpu.ensures.value ∙ more Cpu c.loop-at.cpu c.loop-at.invariant.cpu;
      memory = ap (λ n. c.loop-at.memory + n) c.one_for-memory.ensures.value ∙ more Memory c.loop-at.memory c.loop-at.invariant.memory;
      pods = ap (λ n. c.loop-at.pods + n) c.one_for-pods.ensures.value ∙ more Pods c.loop-at.pods c.loop-at.invariant.pods;
      few = (
        omega (arith, c.loop-at.invariant.few.0, c.one_for-marked.ensures.few),
        omega (arith, c.loop-at.invariant.few.1, c.one_for-taint.ensures.few),
        omega (arith, c.loop-at.invariant.few.2, c.one_for-cpu.ensures.few),
        omega (arith, c.loop-at.invariant.few.3, c.one_for-memory.ensures.few),
        omega (arith, c.loop-at.invariant.few.4, c.one_for-pods.ensures.few),
      );
    }

-- all are, and rules reject none
pub returns : goal.returns
returns c =
    let pod = c.args.pod.now in
    let rows = c.args.rows.now in
    let verdicts = verdicts_alone pod (map shown rows) in
    let all : length verdicts ≡ length rows = many_alone pod (map shown rows) ∙ length-map rows shown in
    let whole : take c.loop-at.at verdicts ≡ verdicts = take_all c.loop-at.at verdicts (omega (arith, all, c.loop-at-test.false, c.loop-at.invariant.last)) in λ i.
    record {
      marked = (c.loop-at.invariant.marked ∙ ap (count_by (is_for Marked)) whole) i;
      taint = (c.loop-at.invariant.taint ∙ ap (count_by (is_for Taint)) whole) i;
      cpu = (c.loop-at.invariant.cpu ∙ ap (count_by (is_for Cpu)) whole) i;
      memory = (c.loop-at.invariant.memory ∙ ap (count_by (is_for Memory)) whole) i;
      pods = (c.loop-at.invariant.pods ∙ ap (count_by (is_for Pods)) whole) i;
      plugin = sym (none_by_plugin pod (map shown rows)) i;
      plugin_final = sym (none_by_final pod (map shown rows)) i;
    }
