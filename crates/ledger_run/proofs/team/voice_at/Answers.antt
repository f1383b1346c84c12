use Rattle.std.proofs.Common.{List, length, sym, ap, ◌∙◌, subst}
use native.Mathlib.Omega.{arith}
use Rattle.std.proofs.lemmas.Option.{slice_get_within, get_or_from_slice_get}
use Rattle.net_script.specs.declared.script.LiarAt.{LiarAt}
use Rattle.ledger_run.specs.Voices.{IsAt, NoneAt}
use Rattle.ledger_run.proofs.Voices.{hears_at-is, voice_at-is, without_voice-is, nobody_hears, nobody_speaks, nobody_taken}
use Rattle.ledger_run.proofs.team.voice_at.Goals as goal

pub returns-in-None : goal.returns-in-None
returns-in-None g c =
    let liars = c.args.script.now.liars.items in
    let none : NoneAt c.args.node liars (length liars) =
    subst (λ (all : List LiarAt). NoneAt c.args.node all (length all)) c.as_slice.ensures.value c.in-None.ensures.none in
    record {
      hears = sym (nobody_hears c.args.node liars none);
      voice = c.silent.ensures ∙ sym (nobody_speaks c.args.node liars _ none);
      left = sym (nobody_taken c.args.node liars _ none);
    }

pub index-requires : goal.index-requires
index-requires g c =
    let at = c.in-Some.ensures.found in
    omega (arith, slice_get_within c.as_slice.result.now c.in-Some.place at.0 at.1.stands, c.as_slice.ensures.len)

pub returns-in-Some : goal.returns-in-Some
returns-in-Some g c =
    let liars = c.args.script.now.liars.items in
    let place = c.in-Some.place in
    let at = c.in-Some.ensures.found in
    let is : IsAt c.args.node liars place at.0 = subst (λ (all : List LiarAt). IsAt c.args.node all place at.0) c.as_slice.ensures.value at.1 in
    record {
      hears = ap (λ (liar : LiarAt). liar.hears) (c.index.ensures ∙ get_or_from_slice_get liars place at.0 c.index.result.now is.stands) ∙ sym (hears_at-is c.args.node liars place at.0 is);
      voice = c.take_voice.ensures.voice ∙ sym (voice_at-is c.args.node liars _ place at.0 is);
      left = c.take_voice.ensures.left ∙ sym (without_voice-is c.args.node liars _ place at.0 is);
    }
