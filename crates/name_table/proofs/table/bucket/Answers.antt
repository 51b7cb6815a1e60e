-- The bucket is the hash of the name's bytes, masked.
use Rattle.std.proofs.Common.{ap, ◌∙◌, bit_and}
use Rattle.std.specs.Hash.DefaultHasher as sip
use Rattle.name_table.specs.inside.Buckets.{bucket_of}
use Rattle.name_table.proofs.table.bucket.Goals as goal

pub returns-clause-bucket : goal.returns-clause-bucket
unfolding bucket_of
returns-clause-bucket c =
    ap (λ h. bit_and h c.args.mask) (c.finish.ensures ∙ ap sip.finish (c.write.ensures ∙ (λ t. sip.write (c.build_hasher-hasher.ensures t) (c.as_bytes.ensures.bytes t))))
