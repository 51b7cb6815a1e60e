-- The status after an audit.
use Rattle.std.specs.Prelude.{ℕ, Bool, true, false}

-- the exit status that tells what an audit said
abbrev pub audit_status : Bool → ℕ
audit_status true = 0
audit_status false = 1
