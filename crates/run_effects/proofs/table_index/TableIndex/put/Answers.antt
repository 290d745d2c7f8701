-- A table comes.
use Rattle.std.specs.Prelude.{◌≡◌, ◌&&◌, ℕ, Bool, true, false, not, Option, Some, None, is_none, is_some}
use Rattle.std.proofs.Common.{refl, sym, ap, ◌∙◌}
use Rattle.run_effects.specs.Tallies.Places.{put_at}
use Rattle.run_effects.proofs.table_index.TableIndex.put.Goals as goal
use Rattle.run_effects.proofs.table_index.TableIndex.put.Goals.{then-self, else-self}

none_there : (before : Option ℕ) (none : Bool) → is_some before ≡ not none → none ≡ is_none before
none_there None true is = refl
none_there None false is = absurd (cc is)
none_there (Some n) true is = absurd (cc is)
none_there (Some n) false is = refl

pub returns : goal.returns
returns c =
    let came = c.in_ok-before.ensures in
    record {
      whole = elim c.if-self.branch as (λ _. c.if-self.self ≡ (c.args.self.now.is_whole && is_none (put_at c.args.table c.args.self.now))) [
        | then-self w ↦
            w.self-is ∙ none_there c.in_ok-before.before w.is_none-self.result w.is_none-self.ensures ∙ ap is_none came.old
            ∙ sym (ap (λ (b : Bool). b && is_none (put_at c.args.table c.args.self.now)) w.if-self.true)
        | else-self w ↦ w.self-is ∙ w.if-self.false ∙ sym (ap (λ (b : Bool). b && is_none (put_at c.args.table c.args.self.now)) w.if-self.false)
      ];
      here = came.updates.1;
      others = λ u apart. came.updates.2 (u.map, u.turn) apart;
    }
