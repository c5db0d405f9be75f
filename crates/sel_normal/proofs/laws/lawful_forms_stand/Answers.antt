use Rattle.sel_normal.proofs.Kept.{lawful_forms_stand}
use Rattle.sel_normal.proofs.laws.lawful_forms_stand.Goals as goal

pub returns : goal.returns
returns c = lawful_forms_stand
