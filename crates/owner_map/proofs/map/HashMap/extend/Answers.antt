-- One more was stored, or one was refused.
use Rattle.std.proofs.Common.{[], ◌∷◌, ◌++◌, ◌∙◌, refl, sym, subst}
use Rattle.std.proofs.iter.Next.{Yields-more}
use Rattle.std.proofs.lemmas.List.Sorted.{IsPermutation-trans}
use Rattle.std.specs.Iterator.{Yields}
use Rattle.owner_rests.proofs.Given.{balanced_still, kept_balances}
use Rattle.owner_asks.specs.Pairs.Puts.{put_all}
use Rattle.owner_rests.proofs.ShowsPairs.Stored.{stored_first, stored_more}
use Rattle.owner_map.proofs.map.HashMap.extend.Goals as goal

pub loop-key-init : goal.loop-key-init
loop-key-init g c = (stored_first g.K.PartialEq.eq c.args.self.now, refl)

pub loop-key-preserved : goal.loop-key-preserved
loop-key-preserved g c =
    let old = c.args.self.now in let put = c.in-Ok.ensures in (
      stored_more g.K.PartialEq.eq old.pairs old.held old.taken old.met c.loop-key.yielded (c.in-Some.key, c.in-Some.value) c.loop-key.self c.put.new.map c.loop-key.invariant.0
          (record { pairs = put.stored; held = put.keeps; taken = put.in_any_order; met = put.last.1 }),
      put.hasher ∙ c.loop-key.invariant.1,
    )

pub returns-clause-put : goal.returns-clause-put
returns-clause-put g c =
    let it = c.into_iter-key-iterator in
    let so = c.loop-key.invariant.0 in record {
      given = c.loop-key.yielded;
      gave = (it.result, it.ensures.into_iter_gives, (c.next.new.self, (c.loop-key.key-iterator, c.loop-key.yielded_by, c.in-None.ensures.steps)));
      pairs = so.pairs;
      held = so.balances;
      last = so.last;
    }

pub returns-in-Err-clause-capacity : goal.returns-in-Err-clause-capacity
returns-in-Err-clause-capacity g c = c.in-Err.ensures.capacity

pub returns-in-Err-clause-put : goal.returns-in-Err-clause-put
returns-in-Err-clause-put g c =
    let it = c.into_iter-key-iterator in
    let xs = c.loop-key.yielded in
    let so = c.loop-key.invariant.0 in
    let old = c.args.self.now in let now = c.loop-key.self in let new = c.put.new.map in
    let told = c.in-Err.ensures in
    let more = Yields-more g.I.IntoIter.Iterator.next_gives it.result xs c.loop-key.key-iterator (c.in-Some.key, c.in-Some.value) c.next.new.self c.loop-key.yielded_by c.in-Some.ensures.steps in record {
      given = xs;
      gave = (
        it.result,
        it.ensures.into_iter_gives,
        (c.next.new.self, subst (λ (x : g.row.K.Denot × g.row.V.Denot). Yields g.I.IntoIter.Iterator.next_gives it.result (xs ++ (x ∷ [])) c.next.new.self) (λ i. (sym told.back.0 i, sym told.back.1 i)) more),
      );
      pairs = IsPermutation-trans new.pairs now.pairs (put_all g.K.PartialEq.eq old.pairs xs) told.refused so.pairs;
      held = balanced_still xs old.held now.held new.held so.balances (kept_balances _ [] now.pairs now.held new.held told.keeps);
      last = told.last;
    }
