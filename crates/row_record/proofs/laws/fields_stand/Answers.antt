use Rattle.row_record.proofs.FieldLemmas.{pod_fields, node_fields}
use Rattle.row_record.proofs.laws.fields_stand.Goals as goal

pub returns-clause-pod : goal.returns-clause-pod
returns-clause-pod c = pod_fields

pub returns-clause-node : goal.returns-clause-node
returns-clause-node c = node_fields
