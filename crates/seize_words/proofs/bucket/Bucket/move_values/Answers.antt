use Rattle.std.proofs.Common.{◌≡◌, ◌∷◌, ◌++◌, [], None, Some, length, sym, ap, ◌∙◌, arith, append-nil}
use Rattle.std.proofs.lemmas.List.{append_assoc, nil_from_length}
use Rattle.std.specs.Vec.Iter.{into_iter_items}
use Rattle.seize_words.specs.OneMemory.Mem.{values_in}
use Rattle.seize_words.proofs.OneMemory.DirectoryKept.{values_in-append}
use Rattle.seize_words.proofs.bucket.Bucket.move_values.Goals as goal

pub loop-piece-preserved-in-Continue-1 : goal.loop-piece-preserved-in-Continue-1
loop-piece-preserved-in-Continue-1 g c =
    let steps = c.in-Some.ensures.steps in
    let was = c.loop-piece.invariant in
    let before = c.args.values.now.items in
    let more : values_in (c.loop-piece.yielded ++ c.in-Some.piece ∷ []) ≡ values_in c.loop-piece.yielded ++ c.take.result ∷ [] =
    ap (λ p. values_in (c.loop-piece.yielded ++ p ∷ [])) c.in-Some-piece.is ∙ values_in-append c.loop-piece.yielded (Some c.in-Some-piece.piece ∷ [])
    ∙ ap (λ v. values_in c.loop-piece.yielded ++ v ∷ []) (sym c.take.ensures) in
    record {
      values_are =
          c.in_ok-push.ensures.items ∙ ap (λ vs. vs ++ c.take.result ∷ []) was.values_are
          ∙ append_assoc before (values_in c.loop-piece.yielded) (c.take.result ∷ []) ∙ ap (λ vs. before ++ vs) (sym more);
      all =
          append_assoc c.loop-piece.yielded (c.in-Some.piece ∷ []) (into_iter_items c.next.new.self)
          ∙ ap (λ es. c.loop-piece.yielded ++ es) (sym steps.0) ∙ was.all;
      counted = omega (arith, steps.1, ap length steps.0, was.counted);
    }

pub loop-piece-preserved : goal.loop-piece-preserved
loop-piece-preserved g c =
    let steps = c.in-Some.ensures.steps in
    let was = c.loop-piece.invariant in
    let same : values_in (c.loop-piece.yielded ++ c.in-Some.piece ∷ []) ≡ values_in c.loop-piece.yielded =
    ap (λ p. values_in (c.loop-piece.yielded ++ p ∷ [])) c.in_default.is ∙ values_in-append c.loop-piece.yielded (None ∷ [])
    ∙ append-nil (values_in c.loop-piece.yielded) in
    record {
      values_are = was.values_are ∙ ap (λ vs. c.args.values.now.items ++ vs) (sym same);
      all =
          append_assoc c.loop-piece.yielded (c.in-Some.piece ∷ []) (into_iter_items c.next.new.self)
          ∙ ap (λ es. c.loop-piece.yielded ++ es) (sym steps.0) ∙ was.all;
      counted = omega (arith, steps.1, ap length steps.0, was.counted);
    }

pub returns : goal.returns
returns g c =
    let was = c.loop-piece.invariant in
    let none : into_iter_items c.loop-piece.piece-iterator ≡ [] = nil_from_length (into_iter_items c.loop-piece.piece-iterator) (was.counted ∙ c.in-None.ensures.steps.0) in
    let all : c.loop-piece.yielded ≡ c.args.self =
    sym (append-nil c.loop-piece.yielded) ∙ ap (λ es. c.loop-piece.yielded ++ es) (sym none) ∙ was.all in
    was.values_are ∙ ap (λ es. c.args.values.now.items ++ values_in es) all
