-- The members of objects that are read, and of those that are made.
use Rattle.serde_json.specs.Data.{Members}
use Rattle.serde_json.specs.View.{members_view}
use Rattle.json_forms.specs.declared.members.ObjectReader.{ObjectReader}
use Rattle.json_forms.specs.declared.members.ObjectWriter.{ObjectWriter}

-- the members that are left
abbrev pub members_left : ObjectReader → Members
members_left r = members_view r.rest

-- the members so far
abbrev pub members_made : ObjectWriter → Members
members_made w = members_view w.members.entries
