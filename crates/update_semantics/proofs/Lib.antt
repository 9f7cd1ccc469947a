mod PartLaws
mod CellLaws
mod ElementLaws
