-- What was written, from one write to the next.
use Rattle.std.proofs.Common.{ℕ, ◌+◌, List, take, drop, Option, sym, subst}
use Rattle.std.proofs.KnownBytes.{Appends-trans, Appends-kept}
use Rattle.std.proofs.lemmas.List.{take-append-drop}
use Rattle.std.proofs.Math.Seq.{take-add}
use Rattle.std.specs.Io.KnownBytes.{Appends, Keeps}
use Rattle.streams.specs.Device.{AppendsFront}

-- after the bytes before a place, a write of n bytes from there on
pub Appends-take-add : (a b c : Option (List ℕ)) (bytes : List ℕ) (at n : ℕ) → Appends a b (take at bytes) → Appends b c (take n (drop at bytes)) → Appends a c (take (at + n) bytes)
Appends-take-add a b c bytes at n first next = subst (Appends a c) (sym (take-add at n bytes)) (Appends-trans a b c _ _ first next)

-- after the bytes before a place, a write that failed
pub AppendsFront-take : (a b c : Option (List ℕ)) (bytes : List ℕ) (at : ℕ) → Appends a b (take at bytes) → Keeps b c → AppendsFront a c bytes
AppendsFront-take a b c bytes at first kept =
    (take at bytes, drop at bytes, sym (take-append-drop at bytes), Appends-kept a b c _ first kept)
