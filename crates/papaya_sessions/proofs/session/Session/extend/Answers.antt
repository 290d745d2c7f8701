-- One more was stored, or one was refused.
use Rattle.std.specs.Prelude.{is_some}
use Rattle.std.proofs.Common.{[], ◌∷◌, ◌++◌, ◌∙◌, refl, sym, subst}
use Rattle.std.proofs.iter.Next.{Yields-more}
use Rattle.std.specs.Iterator.{Yields}
use Rattle.papaya_sessions.proofs.Extended.{put_more}
use Rattle.papaya_sessions.specs.Extended.{PutsPair}
use Rattle.papaya_sessions.specs.OneMap.{WasRefused}
use Rattle.play_moves.specs.Given.ActsActs.{Insert}
use Rattle.papaya_sessions.proofs.session.Session.extend.Goals as goal

pub loop-key-init : goal.loop-key-init
loop-key-init g c = (refl, refl)

pub loop-key-preserved : goal.loop-key-preserved
loop-key-preserved g c =
    let put = c.in-Ok.ensures in (
      put_more (PutsPair g.K.PartialEq.eq g.S.Hashes.hash) c.loop-key.yielded (c.in-Some.key, c.in-Some.value) c.args.self.now.base.caller c.loop-key.self.base.caller c.insert.new.self.base.caller
          c.loop-key.invariant.0 (is_some c.in-Ok.field-0, put.keeps.1, put.stored),
      put.keeps.0 ∙ c.loop-key.invariant.1,
    )

pub returns-clause-extended : goal.returns-clause-extended
returns-clause-extended g c =
    let it = c.into_iter-key-iterator in record {
      source = it.result;
      begins = it.ensures.into_iter_gives;
      given = c.loop-key.yielded;
      before = c.loop-key.self.base.caller;
      stored = c.loop-key.invariant.0;
      ended = ((c.next.new.self, (c.loop-key.key-iterator, c.loop-key.yielded_by, c.in-None.ensures.steps)), refl);
    }

pub returns-in-Err-clause-extended : goal.returns-in-Err-clause-extended
returns-in-Err-clause-extended g c =
    let it = c.into_iter-key-iterator in let xs = c.loop-key.yielded in let told = c.in-Err.ensures in
    let more = Yields-more g.I.IntoIter.Iterator.next_gives it.result xs c.loop-key.key-iterator (c.in-Some.key, c.in-Some.value) c.next.new.self c.loop-key.yielded_by c.in-Some.ensures.steps in record {
      source = it.result;
      begins = it.ensures.into_iter_gives;
      given = xs;
      before = c.loop-key.self.base.caller;
      stored = c.loop-key.invariant.0;
      ended = (
        (c.next.new.self, subst (λ (x : g.row.K.Denot × g.row.V.Denot). Yields g.I.IntoIter.Iterator.next_gives it.result (xs ++ (x ∷ [])) c.next.new.self) (λ i. (sym told.back.0 i, sym told.back.1 i)) more),
        subst (λ (x : g.row.K.Denot × g.row.V.Denot). WasRefused g.K.PartialEq.eq g.S.Hashes.hash (Insert x.0 x.1) c.in-Err.refused.fault c.loop-key.self.base.caller c.insert.new.self.base.caller)
            (λ i. (sym told.back.0 i, sym told.back.1 i)) told.refused,
      );
    }
