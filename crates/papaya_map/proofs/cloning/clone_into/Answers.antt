use Rattle.papaya_map.proofs.Cloned.{cloned_into}
use Rattle.papaya_map.proofs.cloning.clone_into.Goals as goal

pub returns-in-Ok : goal.returns-in-Ok
returns-in-Ok g c =
    let told = c.shows_to-end in record {
      cloned =
          cloned_into g.K.PartialEq.eq g.S.Hashes.hash g.K.Clone.is_clone g.V.Clone.is_clone (λ w. w.refused) (λ w. w.session.base.caller) c.args.session.now.base.caller told.new.self.base.caller _
          told.result.1 told.ensures.told told.result.0 tt c.in-Ok.is told.ensures.shown c.ended.result c.ended.ensures;
    }
