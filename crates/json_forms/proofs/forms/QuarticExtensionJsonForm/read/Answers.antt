use Rattle.std.proofs.Common.{length, Some, option_map, sym, ap, ◌∙◌, map-id}
use Rattle.serde_json.specs.View.{view}
use Rattle.json_forms.specs.Readings.{extension_of}
use Rattle.json_forms.proofs.Items.{four_long}
use Rattle.json_forms.proofs.forms.QuarticExtensionJsonForm.read.Goals as goal

pub of_four-requires : goal.of_four-requires
of_four-requires c = ap length c.deref.ensures.value ∙ four_long c.in_ok-parts.parts.items (view c.args.json.now) c.in_ok-parts.ensures.ok

pub returns-clause-ok : goal.returns-clause-ok
returns-clause-ok c =
    ap (option_map extension_of) (c.in_ok-parts.ensures.ok ∙ ap Some (map-id c.in_ok-parts.parts.items)) ∙ ap Some (sym (c.of_four.ensures ∙ ap extension_of c.deref.ensures.value))
