-- What calls hand over is what they took out.
use Rattle.play_events.proofs.Folded.Effects.{effects_fold}
use Rattle.play_events.proofs.Folded.Logs.{calls_fold, deferrals_are_right, ended_calls_fold}
use Rattle.play_events.proofs.law.what_goes_out_is_handed_over.Goals as goal

pub returns : goal.returns
returns c d = record { effects = effects_fold _ _; calls = calls_fold _ _; ended = ended_calls_fold _ _; deferrals = deferrals_are_right _ _ }
