-- What the code's scopes and blocks stand for.
use Rattle.std.specs.Option.{option_map}
use Rattle.c_types.specs.Scopes.{Picks, Scope, Block}
use Rattle.c_types.specs.declared.scope.Scope as code
use Rattle.c_types.specs.declared.scope.Picks as pairs
use Rattle.c_types.specs.declared.scope.Block as blocks

abbrev pub seen_picks : pairs.Picks → Picks
seen_picks p = record { after = p.after; before = p.before }

abbrev pub seen_scope : code.Scope → Scope
seen_scope s = record {
  outside = s.outside;
  forced = s.forced;
  picks = option_map seen_picks s.picks;
  locals = s.locals;
  told = s.told;
  ahead = s.ahead;
  gives = s.gives;
  xform = s.xform;
}

abbrev pub seen_block : blocks.Block → Block
seen_block b = record { base = b.base; mark = b.mark }
