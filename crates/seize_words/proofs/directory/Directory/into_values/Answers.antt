use Rattle.std.proofs.Common.{◌≡◌, ◌∷◌, ◌++◌, [], length, sym, ap, ◌∙◌, arith}
use Rattle.std.proofs.lemmas.List.{append_assoc}
use Rattle.std.specs.Vec.Iter.{into_iter_items}
use Rattle.seize_words.specs.OneMemory.Buckets.{all_in}
use Rattle.seize_words.specs.OneMemory.Mem.{values_in}
use Rattle.seize_words.proofs.OneMemory.DirectoryKept.{values_in-append}
use Rattle.seize_words.proofs.OneMemory.Places.Filled.{all_in-push}
use Rattle.seize_words.proofs.directory.Directory.into_values.Goals as goal

pub loop-bucket-preserved : goal.loop-bucket-preserved
loop-bucket-preserved g c =
    let steps = c.in-Some.ensures.steps in
    let was = c.loop-bucket.invariant in
    let more : values_in (all_in (c.loop-bucket.yielded ++ c.in-Some.bucket ∷ [])) ≡ values_in (all_in c.loop-bucket.yielded) ++ values_in c.in-Some.bucket =
    ap values_in (all_in-push c.loop-bucket.yielded c.in-Some.bucket) ∙ values_in-append (all_in c.loop-bucket.yielded) c.in-Some.bucket in
    record {
      values_are = c.in_ok-move_values.ensures ∙ ap (λ vs. vs ++ values_in c.in-Some.bucket) was.values_are ∙ sym more;
      all =
          append_assoc c.loop-bucket.yielded (c.in-Some.bucket ∷ []) (into_iter_items c.next.new.self)
          ∙ ap (λ es. c.loop-bucket.yielded ++ es) (sym steps.0) ∙ was.all;
      counted = omega (arith, steps.1, ap length steps.0, was.counted);
    }
