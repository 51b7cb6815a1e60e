use Rattle.std.proofs.Common.{◌≡◌, ◌∙◌, rules, max}
use Rattle.std.specs.List.{fold}
use Rattle.quant.proofs.RequestLemmas.{greatest_by_fold}
use Rattle.quant.proofs.pod_request.greatest_cpu.Goals as goal

pub returns : goal.returns
returns c =
    let e : c.fold.result ≡ fold (λ a r. max a r.cpu.0) 0 c.args.containers.now = search rules in
    e ∙ greatest_by_fold (λ r. r.cpu.0) c.args.containers.now
