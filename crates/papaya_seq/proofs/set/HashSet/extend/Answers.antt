-- One more was stored, or one was refused.
use Rattle.std.proofs.Common.{[], ◌∷◌, ◌++◌, ◌∙◌, refl, sym, subst}
use Rattle.std.proofs.iter.Next.{Yields-more}
use Rattle.std.proofs.lemmas.List.Sorted.{IsPermutation-trans}
use Rattle.std.specs.Iterator.{Yields}
use Rattle.owner_map.proofs.Given.{balanced_still, kept_balances}
use Rattle.papaya_seq.specs.Sets.{put_all_in}
use Rattle.papaya_seq.proofs.Stored.{stored_first, stored_more}
use Rattle.papaya_seq.proofs.set.HashSet.extend.Goals as goal

pub loop-element-init : goal.loop-element-init
loop-element-init g c = (stored_first g.K.PartialEq.eq c.args.self.now, refl)

pub loop-element-preserved : goal.loop-element-preserved
loop-element-preserved g c =
    let old = c.args.self.now in let put = c.in-Ok.ensures in (
      stored_more g.K.PartialEq.eq old.elements old.held old.taken old.met c.loop-element.yielded c.in-Some.element c.loop-element.self c.insert.new.self c.loop-element.invariant.0
          (record { elements = put.stored; held = put.keeps; taken = put.in_any_order; met = put.last.1 }),
      put.hasher ∙ c.loop-element.invariant.1,
    )

pub returns-clause-put : goal.returns-clause-put
returns-clause-put g c =
    let it = c.into_iter-element-iterator in
    let so = c.loop-element.invariant.0 in record {
      given = c.loop-element.yielded;
      gave = (it.result, it.ensures.into_iter_gives, (c.next.new.self, (c.loop-element.element-iterator, c.loop-element.yielded_by, c.in-None.ensures.steps)));
      elements = so.elements;
      held = so.balances;
      last = so.last;
    }

pub returns-in-Err-clause-capacity : goal.returns-in-Err-clause-capacity
returns-in-Err-clause-capacity g c = c.in-Err.ensures.capacity

pub returns-in-Err-clause-put : goal.returns-in-Err-clause-put
returns-in-Err-clause-put g c =
    let it = c.into_iter-element-iterator in
    let xs = c.loop-element.yielded in
    let so = c.loop-element.invariant.0 in
    let old = c.args.self.now in let now = c.loop-element.self in let new = c.insert.new.self in
    let told = c.in-Err.ensures in
    let more = Yields-more g.I.IntoIter.Iterator.next_gives it.result xs c.loop-element.element-iterator c.in-Some.element c.next.new.self c.loop-element.yielded_by c.in-Some.ensures.steps in record {
      given = xs;
      gave = (
        it.result,
        it.ensures.into_iter_gives,
        (c.next.new.self, subst (λ (x : g.row.K.Denot). Yields g.I.IntoIter.Iterator.next_gives it.result (xs ++ (x ∷ [])) c.next.new.self) (sym told.back) more),
      );
      elements = IsPermutation-trans new.elements now.elements (put_all_in g.K.PartialEq.eq old.elements xs) told.refused so.elements;
      held = balanced_still xs old.held now.held new.held so.balances (kept_balances _ [] now.elements now.held new.held told.keeps);
      last = told.last;
    }
