use Rattle.serde_json.specs.View.{view}
use Rattle.script_reader.proofs.Apart.{apart_liars}
use Rattle.script_reader.proofs.Few.{few_links, few_stops, few_faults}
use Rattle.script_reader.proofs.lists.lists_at.Goals as goal

pub returns-clause-sound : goal.returns-clause-sound
returns-clause-sound c =
    let n = c.args.n in
    let value = view c.args.value.now in
    record {
      submit = c.in_ok-submit.ensures.sound;
      liars = c.in_ok-liars.ensures.sound;
      few = c.in_ok-liars.ensures.few;
      apart = apart_liars n c.args.f c.args.cast.now value c.in_ok-liars.liars.items c.in_ok-liars.ensures.gives;
      links = c.in_ok-links.ensures.sound;
      few_links = few_links n value c.in_ok-links.links.items c.in_ok-links.ensures.gives;
      stops = c.in_ok-stops.ensures.sound;
      few_stops = few_stops n value c.in_ok-stops.stops.items c.in_ok-stops.ensures.gives;
      faults = c.in_ok-faults.ensures.sound;
      few_faults = few_faults n value c.in_ok-faults.faults.items c.in_ok-faults.ensures.gives;
    }
