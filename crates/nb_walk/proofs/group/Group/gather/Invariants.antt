use Rattle.std.proofs.Common.{◌≤◌, ◌↔◌, take, vec_len, vec_capacity}
use Rattle.std.specs.Prelude.{All, Contains}
use Rattle.nb_host.specs.declared.page_name.PageName.{PageName}
use Rattle.nb_walk.specs.Group.{SomeNeed}
use Rattle.nb_walk.specs.Page.{IsPageOf}
use Rattle.nb_walk.proofs.group.Group.gather.Given as goal

abbrev pub invariant-loop-own : goal.invariant-loop-own
invariant-loop-own l = record {
  names : (name : PageName) → Contains l.wants.items name ↔ SomeNeed l.tree (take l.own-index l.own-items) name;
  pages : All (IsPageOf l.tree) l.wants.items;
  count : vec_len l.wants ≤ l.own-index;
  capacity : vec_capacity l.fn.wants ≤ vec_capacity l.wants;
}
