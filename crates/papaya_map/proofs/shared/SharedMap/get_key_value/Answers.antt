use Rattle.std.proofs.Common.{sym, inr, ◌∙◌}
use Rattle.std.proofs.lemmas.Result.{IfErr-weaker, IfOk-weaker}
use Rattle.papaya_sessions.specs.Homes.{home_at, home_of}
use Rattle.papaya_map.proofs.Homes.{with_guard}
use Rattle.papaya_map.proofs.shared.SharedMap.get_key_value.Goals as goal

pub get_key_value_by-requires : goal.get_key_value_by-requires
get_key_value_by-requires g c =
    let x = c.args.self.now in let y = c.args.guard.now in let p = c.args.pass.now in record {
      source =
          with_guard p.number p.base.seat.base (home_of y.number y.base.caller) (home_at x.number x.blocks.now.words.id.views_name x.seat.now.view.map) c.requires.one_map c.requires.source
          (sym c.number.ensures ∙ c.if-number-self.false);
    }

pub returns-clause-foreign : goal.returns-clause-foreign
returns-clause-foreign g c =
    IfErr-weaker c.get_key_value_by.result _ _ (λ fault so. (so.0, inr (λ e. so.1 (e ∙ sym (sym c.number.ensures ∙ c.if-number-self.false))), so.2)) c.get_key_value_by.ensures.foreign

pub returns-clause-own : goal.returns-clause-own
returns-clause-own g c = IfOk-weaker c.get_key_value_by.result _ _ (λ found e. (sym c.number.ensures ∙ c.if-number-self.false, e ∙ (sym c.number.ensures ∙ c.if-number-self.false))) c.get_key_value_by.ensures.own
