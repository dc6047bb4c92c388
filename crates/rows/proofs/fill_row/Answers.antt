-- `rows::fill_row` meets its contract: in zeros there is room for the out-chain, and then for the in-chain.
use Rattle.lenses.proofs.ChainWalks.{ready_right}
use Rattle.rows.proofs.Fills.{filled_room, filled_row}
use Rattle.rows.proofs.fill_row.Goals as goal

pub fill_chain-requires-2-clause-room : goal.fill_chain-requires-2-clause-room
fill_chain-requires-2-clause-room c = filled_room (ready_right c.args.area.ready) c.requires.zeros c.fill_chain.ensures

pub returns : goal.returns
returns c = filled_row (ready_right c.args.area.ready) c.requires.zeros c.fill_chain.ensures c.fill_chain-2.ensures
