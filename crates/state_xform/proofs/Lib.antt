mod AllLaws
mod NameLaws
mod PathLaws
mod TransformerLaws
