use Rattle.std.proofs.Common.{◌≡◌, [], ◌++◌, ◌<◌, true, false, Ok, length, ap, subst, refl, arith, rules}
use Rattle.std.proofs.lemmas.List.{length-append}
use Rattle.streams.specs.inside.Lines.{TakesPiece}
use Rattle.streams.proofs.Taking.{IsTaken-more, IsTaken-piece, told-still, TakesFront-newline, TakesFront-last, length-kept, less_left, nothing_taken, nothing_yet}
use Rattle.streams.proofs.lines.LineReader.next_front.Goals as goal

pub take_piece-requires : goal.take_piece-requires
take_piece-requires g c =
    omega (arith, length-kept _ _ _ c.pieces.invariant.1.kept_is, c.pieces.line.ok.0)

pub returns-then-not-more-clause-found : goal.returns-then-not-more-clause-found
returns-then-not-more-clause-found g c e =
    let begins : c.pieces.begun ≡ true = cc in
    let none : c.in-Ok.more ≡ false = search rules in
    TakesFront-last _ _ _ _ _ _ _ begins (c.in-Ok.ensures.ended (ap Ok none)) (IsTaken-more _ _ _ _ _ _ _ c.in-Ok.ensures.read c.pieces.invariant.1)

pub returns-then-ended-clause-found : goal.returns-then-ended-clause-found
returns-then-ended-clause-found g c _ =
    let piece = c.in-Ok-take_piece.ensures in
    let cut : TakesPiece true c.has_more.new.self c.take_piece.new.self piece.0 = subst (λ b. TakesPiece b c.has_more.new.self c.take_piece.new.self piece.0) c.if-ended.true piece.3 in
    TakesFront-newline _ _ _ _ _ _ _ _ _ _ piece.1 piece.2 cut (IsTaken-more _ _ _ _ _ _ _ c.in-Ok.ensures.read c.pieces.invariant.1)

pub returns-then-not-more-clause-ended : goal.returns-then-not-more-clause-ended
returns-then-not-more-clause-ended g c e =
    let ended = c.in-Ok.ensures.ended (ap Ok c.if-not-more.true) in
    let none : c.pieces.begun ≡ false = cc in
    (ended.0, ended.1, nothing_taken _ _ _ _ _ _ none (IsTaken-more _ _ _ _ _ _ _ c.in-Ok.ensures.read c.pieces.invariant.1))

pub returns-then-ended-clause-less : goal.returns-then-ended-clause-less
returns-then-ended-clause-less g c _ =
    let piece = c.in-Ok-take_piece.ensures in
    let cut : TakesPiece true c.has_more.new.self c.take_piece.new.self piece.0 = subst (λ b. TakesPiece b c.has_more.new.self c.take_piece.new.self piece.0) c.if-ended.true piece.3 in
    less_left _ _ _ _ _ _ _ cut c.pieces.invariant.4 c.in-Ok.ensures.left

pub pieces-preserved : goal.pieces-preserved
pieces-preserved g c =
    let piece = c.in-Ok-take_piece.ensures in
    let cut : TakesPiece false c.has_more.new.self c.take_piece.new.self piece.0 = subst (λ b. TakesPiece b c.has_more.new.self c.take_piece.new.self piece.0) c.if-ended.false piece.3 in
    let some : 0 < length c.has_more.new.self = search rules in (
      c.pieces.invariant.0 ++ piece.0,
      IsTaken-piece _ _ _ _ _ _ _ _ _ _ piece.1 piece.2 cut some (IsTaken-more _ _ _ _ _ _ _ c.in-Ok.ensures.read c.pieces.invariant.1),
      search rules,
      λ _. told-still _ _ _ _ c.pieces.invariant.3 c.in-Ok.ensures.kept piece.1 cut.0,
      omega (arith, length-append c.pieces.invariant.0 piece.0, ap length cut.0, ap length cut.1, c.pieces.invariant.4, c.in-Ok.ensures.left),
    )

pub returns-then-not-more-clause-short : goal.returns-then-not-more-clause-short
returns-then-not-more-clause-short g c =
    omega (arith, length-kept _ _ _ c.pieces.invariant.1.kept_is, c.pieces.line.ok.0)

pub returns-then-ended-clause-short : goal.returns-then-ended-clause-short
returns-then-ended-clause-short g c =
    omega (arith, length-kept _ _ _ c.in-Ok-take_piece.ensures.2, c.take_piece.new.line.ok.0)

pub pieces-init : goal.pieces-init
pieces-init g c = ([], nothing_yet _ _ _ c.clear.ensures.items, refl, c.requires.told, omega arith)
