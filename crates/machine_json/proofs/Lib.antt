mod TableLaws
mod Refusals
mod FaultLaws
mod TwoParts
mod TextLaws
mod ImageLaws
